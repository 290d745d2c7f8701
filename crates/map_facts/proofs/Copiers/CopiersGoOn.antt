-- A copier, in incremental mode, goes on from a place that is done, or that others copy.
use Rattle.std.specs.Prelude.{if◌then◌else◌, ◌==◌, nat_lt}
use Rattle.std.proofs.Common.{◌≡◌, ◌≢◌, ℕ, suc, ◌+◌, ◌-◌, ◌<◌, ◌≤◌, Bool, true, false, ◌⊎◌, inl, inr, refl, sym, subst, arith, eqb-true, eq-or-lt_of_le}
use Rattle.std.proofs.lemmas.Bool.{ltb-true, ltb-false, eqb-false}
use Rattle.papaya_raw.specs.Given.SeizeWorld.{World}
use Rattle.papaya_raw.specs.Given.TablesChunks.{is_incremental}
use Rattle.map_rule.specs.Given.ResizeCopierStates.{standing, behind, next_place}
use Rattle.papaya_raw.specs.Given.TablesDeclared.node.Node.{Node}
use Rattle.papaya_raw.specs.Given.TablesDeclared.setting.Setting.{Setting}
use Rattle.map_rule.specs.Given.ResizeDeclared.copier.Copier.{Copier}
use Rattle.map_rule.specs.Given.ResizeDeclared.copier.Copying.TheVariants as at
use Rattle.map_rule.specs.Chart.{Chart}
use Rattle.map_rule.specs.Words.{Blocks}
use Rattle.map_rule.specs.Maps.{IsTable}
use Rattle.map_facts.specs.FactsCopies.{CopierFacts, CopyingFacts, Copies, HasDone, ClaimsNone, HasSettled, InRange}

module _ {K V : Type 0} (same : K → K → Bool) (hash : K → ℕ) (w : World (Node K V)) (caller : ℕ) (setting : Setting) (c : Chart K) (blocks : Blocks)
    (bits : is_incremental setting.mode ≡ true) (none : ClaimsNone same hash w caller setting c blocks) where
  module _ (p : Copier) (is : p.setting ≡ setting) (t : ℕ) (copies : Copies same hash w caller setting c blocks p t) where
    -- its range is behind it, and counted
    pub behind_facts : p.done ≡ 0 → HasDone same hash w caller setting c blocks 0 → HasSettled same hash w caller setting c blocks p t (c.len t)
        → CopierFacts same hash w caller setting c blocks (behind p)
    behind_facts rests done settled = by_part p.whole refl
      where
        spent : is_incremental p.setting.mode ≡ true
        spent = subst (λ (s : Setting). is_incremental s.mode ≡ true) (sym is) bits

        by_part : (b : Bool) → p.whole ≡ b
            → CopierFacts same hash w caller setting c blocks
            (if b then record p { place = 0; end = 0; spent = is_incremental p.setting.mode; stands = at.Asks } else standing p at.Over)
        by_part true whole = record { setting_is = is; point = (t, copies, rests, done, none, spent, whole, settled) }
        by_part false whole = record { setting_is = is; point = (done, none) }

    -- so is its place
    pub next_facts : HasDone same hash w caller setting c blocks p.done → InRange same hash w caller setting c blocks p t
        → HasSettled same hash w caller setting c blocks p t (p.place + 1) → CopierFacts same hash w caller setting c blocks (next_place p)
    next_facts done range settled = by_range (nat_lt p.place (p.end - 1)) refl
      where
        all_settled : p.end - 1 ≤ p.place → HasSettled same hash w caller setting c blocks p t (c.len t)
        all_settled past whole j l = let end = range.2 whole in settled whole j (omega (arith, past, end, l))

        is_root : p.done ≢ 0 → t ≡ c.first
        is_root some = by_order (eq-or-lt_of_le copies.2)
          where
            by_order : (t ≡ c.first) ⊎ (t < c.first) → t ≡ c.first
            by_order (inl e) = e
            by_order (inr l) = absurd (some (copies.3 l))

        counting : p.done ≢ 0 → HasSettled same hash w caller setting c blocks p t (c.len t) → CopyingFacts same hash w caller setting c blocks p at.Counts
        counting some all =
            let e = is_root some in (
              (subst (λ (x : ℕ). IsTable c blocks p.source x) e copies.0, subst (λ (x : ℕ). IsTable c blocks p.target (suc x)) e copies.1),
              omega (arith, some),
              done,
              none,
              subst (λ (x : ℕ). HasSettled same hash w caller setting c blocks p x (c.len x)) e all,
            )

        ends : p.end - 1 ≤ p.place → (b : Bool) → (p.done == 0) ≡ b → CopierFacts same hash w caller setting c blocks (if b then behind p else standing p at.Counts)
        ends past true e = let rests = eqb-true p.done 0 e in
            behind_facts rests (subst (λ (x : ℕ). HasDone same hash w caller setting c blocks x) rests done) (all_settled past)
        ends past false e = record { setting_is = is; point = counting (eqb-false p.done 0 e) (all_settled past) }

        by_range : (b : Bool) → nat_lt p.place (p.end - 1) ≡ b
            → CopierFacts same hash w caller setting c blocks
            (if b then record p { place = p.place + 1; stands = at.Marks } else (if p.done == 0 then behind p else standing p at.Counts))
        by_range true e = let l = ltb-true p.place (p.end - 1) e in
            record { setting_is = is; point = (t, copies, done, none, (omega (arith, l, range.1), range.1, range.2), settled) }
        by_range false e = ends (ltb-false p.place (p.end - 1) e) (p.done == 0) refl
