-- What lasts of a map's tables where one is linked, or a move was made: the root, the current pairs, and that a caller has no part in a copying.
use Rattle.std.proofs.Common.{ap, sym, subst, ◌∙◌, inl, inr, arith}
use Rattle.std.proofs.lemmas.Bool.{cases_eq, ne_eqb}
use Rattle.std.specs.Prelude.{◌≡◌, ℕ, suc, Bool, true, false, cond}
use Rattle.papaya_raw.specs.Given.SeizeWorld.{World}
use Rattle.papaya_raw.specs.Given.TablesChunks.{is_incremental}
use Rattle.papaya_raw.specs.Given.TablesDeclared.node.Node.{Node}
use Rattle.papaya_raw.specs.Given.TablesDeclared.setting.Setting.{Setting}
use Rattle.map_rule.specs.Chart.{Chart, put}
use Rattle.map_facts.specs.FactsCopies.{HasDone, ClaimsNone}
use Rattle.map_facts.specs.FactsCopiesBlocking.{HasNoShares}
use Rattle.map_facts.specs.FactsIdle.{IsIdle}
use Rattle.map_rule.specs.InWorld.{IsMapIn, Moved}
use Rattle.map_rule.specs.Lasts.{Lasts}
use Rattle.map_rule.specs.Maps.{spot_of}
use Rattle.map_rule.specs.Moves.{Links, after, is_done_by}
use Rattle.map_rule.specs.Rule.{IsLawful, total}
use Rattle.map_facts.specs.Told.{OnlyLinks}
use Rattle.map_rule.specs.Words.{Blocks}
use Rattle.map_rule.proofs.Moves.Lasting.{beside_lasts}
use Rattle.map_rule.proofs.Moves.Promised.{moves_keep}
use Rattle.map_rule.proofs.Moves.Totals.{total_none}

-- what lasts from one state of the tables to the next
pub moved_lasts : {K V : Type 0} (same : K → K → Bool) (hash : K → ℕ) (setting : Setting) → IsLawful same (spot_of hash) → (w : World (Node K V)) (c c2 : Chart K) (blocks : Blocks) {caller : ℕ}
    → IsMapIn same hash setting w c blocks → Moved same hash setting.mode caller c c2 → Lasts same (spot_of hash) (is_incremental setting.mode) c c2
moved_lasts same hash setting lawful w c c2 blocks map (inl e) =
    subst (λ (x : Chart _). Lasts same (spot_of hash) (is_incremental setting.mode) c x) (sym e) (beside_lasts same (spot_of hash) (is_incremental setting.mode) c c.status c.claim c.copied c.share)
moved_lasts same hash setting lawful w c c2 blocks map (inr (move, allowed, e, by)) =
    subst (λ (x : Chart _). Lasts same (spot_of hash) (is_incremental setting.mode) c x) (sym e) (moves_keep same (spot_of hash) (is_incremental setting.mode) lawful move c map.map.rule allowed).1

-- a caller has no part in a copying, by the mode
pub idle_in : {K V : Type 0} (same : K → K → Bool) (hash : K → ℕ) (w : World (Node K V)) (caller : ℕ) (setting : Setting) (c : Chart K) (blocks : Blocks) (b : Bool) → is_incremental setting.mode ≡ b
    → cond b (HasDone same hash w caller setting c blocks 0 × ClaimsNone same hash w caller setting c blocks) (HasNoShares same hash w caller setting c blocks)
    → IsIdle same hash w caller setting c blocks
idle_in same hash w caller setting c blocks b mode =
    subst (λ (x : Bool). cond x (HasDone same hash w caller setting c blocks 0 × ClaimsNone same hash w caller setting c blocks) (HasNoShares same hash w caller setting c blocks)) (sym mode)

module _ {K V : Type 0} (same : K → K → Bool) (hash : K → ℕ) (caller : ℕ) (setting : Setting) (lawful : IsLawful same (spot_of hash))
    (w : World (Node K V)) (c : Chart K) (blocks : Blocks) (map : IsMapIn same hash setting w c blocks) where
  -- the current pairs, and the root, are what they were
  pub links_same : (c2 : Chart K) → OnlyLinks hash setting.mode c c2 → (c2.current ≡ c.current) × (c2.first ≡ c.first)
  links_same c2 (inl e) = (ap (λ (x : Chart K). x.current) e, ap (λ (x : Chart K). x.first) e)
  links_same c2 (inr (len, limit, e)) = (ap (λ (x : Chart K). x.current) e, ap (λ (x : Chart K). x.first) e)

  none_done : (len : ℕ) → 0 ≡ total (is_done_by caller) (c.share (suc c.first)) (c.len c.first) → 0 ≡ total (is_done_by caller) (c.share (suc c.first)) (put c.len c.past len c.first)
  none_done len none =
      elim (cases_eq c.first c.past) as (λ _. 0 ≡ total (is_done_by caller) (c.share (suc c.first)) (put c.len c.past len c.first)) [
        | inl e ↦ sym (total_none (is_done_by caller) (c.share (suc c.first)) (put c.len c.past len c.first)
            (λ j l. ap (is_done_by caller) (map.map.rule.common.unshared (suc c.first) j (omega arith))))
        | inr ne ↦ none ∙ ap (λ q. total (is_done_by caller) (c.share (suc c.first)) (cond q len (c.len c.first))) (sym (ne_eqb c.first c.past ne))
      ]

  pub idle_linked : (w2 : World (Node K V)) (c2 : Chart K) (blocks2 : Blocks) → OnlyLinks hash setting.mode c c2 → IsIdle same hash w caller setting c blocks
      → IsIdle same hash w2 caller setting c2 blocks2
  idle_linked w2 c2 blocks2 (inl e) idle = subst (λ (x : Chart K). IsIdle same hash w2 caller setting x blocks2) (sym e) idle
  idle_linked w2 c2 blocks2 (inr (len, limit, e)) idle =
      subst (λ (x : Chart K). IsIdle same hash w2 caller setting x blocks2) (sym e) (by (is_incremental setting.mode) idle)
    where
      by : (b : Bool) → cond b (HasDone same hash w caller setting c blocks 0 × ClaimsNone same hash w caller setting c blocks) (HasNoShares same hash w caller setting c blocks)
          → cond b (HasDone same hash w2 caller setting (after (spot_of hash) (is_incremental setting.mode) (Links len limit) c) blocks2 0
          × ClaimsNone same hash w2 caller setting (after (spot_of hash) (is_incremental setting.mode) (Links len limit) c) blocks2)
          (HasNoShares same hash w2 caller setting (after (spot_of hash) (is_incremental setting.mode) (Links len limit) c) blocks2)
      by true h = (none_done len h.0, h.1)
      by false h = h
