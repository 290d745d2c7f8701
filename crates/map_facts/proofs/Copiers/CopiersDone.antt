-- A copier, in incremental mode, has done its place of the root: what it knows when it goes on.
use Rattle.std.proofs.Common.{◌≡◌, ℕ, suc, ◌+◌, ◌%◌, ◌^◌, ◌<◌, ◌≤◌, Bool, true, refl, ◌∙◌, arith}
use Rattle.std.proofs.lemmas.Bool.{eq-eqb}
use Rattle.papaya_raw.specs.Given.SeizeWorld.{World}
use Rattle.papaya_raw.specs.Given.TablesChunks.{is_incremental}
use Rattle.map_rule.specs.Given.ResizeCopierStates.{place_done}
use Rattle.papaya_raw.specs.Given.TablesDeclared.node.Node.{Node}
use Rattle.papaya_raw.specs.Given.TablesDeclared.setting.Setting.{Setting}
use Rattle.map_rule.specs.Given.ResizeDeclared.copier.Copier.{Copier}
use Rattle.map_rule.specs.Chart.{Place, Claimed, Done, Chart, put_in, is_settled}
use Rattle.map_rule.specs.Rule.{total}
use Rattle.map_rule.specs.Moves.{is_done_by}
use Rattle.map_rule.specs.Words.{Blocks}
use Rattle.map_facts.specs.FactsCopies.{CopierFacts, CopiesRoot, HasDone, HasSettled, InRange}
use Rattle.map_facts.proofs.Copiers.CopiersGoOn.{next_facts}
use Rattle.map_rule.proofs.Shares.CopiersMoves.{table_beside, none_claimed, one_done, settled_next, settled_below}
use Rattle.map_rule.proofs.Shares.CopiersShares.{done_fits}

module _ {K V : Type 0} (same : K → K → Bool) (hash : K → ℕ) (w : World (Node K V)) (caller : ℕ) (setting : Setting) (c : Chart K) (blocks : Blocks)
    (bits : is_incremental setting.mode ≡ true) (p : Copier) (is : p.setting ≡ setting) where
  -- the place is settled, and the caller has done it
  pub done_facts : (place : Place) → is_settled place ≡ true → is_done_by caller (c.share (suc c.first) p.place) ≡ 0
      → ((j : ℕ) → c.share (suc c.first) j ≡ Claimed caller → j ≡ p.place)
      → CopiesRoot same hash w caller setting c blocks p → HasDone same hash w caller setting c blocks p.done → InRange same hash w caller setting c blocks p c.first
      → HasSettled same hash w caller setting c blocks p c.first p.place → c.len c.first ≤ 2 ^ 48 → (u : World (Node K V))
      → CopierFacts same hash u caller setting (record c { place = put_in c.place c.first p.place place; share = put_in c.share (suc c.first) p.place (Done caller) }) blocks (place_done p)
  done_facts place over was only copies done range settled most u =
      next_facts same hash u caller setting (record c { place = put_in c.place c.first p.place place; share = put_in c.share (suc c.first) p.place (Done caller) }) blocks bits
      (none_claimed c.share caller (suc c.first) p.place (Done caller) (λ e. cc e) only)
      (record p { done = (p.done + 1) % 2 ^ 64 }) is c.first (
        table_beside c (put_in c.place c.first p.place place) (put_in c.share (suc c.first) p.place (Done caller)) c.claim c.copied blocks p.source c.first copies.0,
        table_beside c (put_in c.place c.first p.place place) (put_in c.share (suc c.first) p.place (Done caller)) c.claim c.copied blocks p.target (suc c.first) copies.1,
        omega arith,
        λ l. absurd (omega (arith, l)),
      )
      (fits ∙ one_more) range all_settled
    where
      one_more : p.done + 1 ≡ total (is_done_by caller) (put_in c.share (suc c.first) p.place (Done caller) (suc c.first)) (c.len c.first)
      one_more = one_done c.share caller (suc c.first) p.place (c.len c.first) p.done range.0 was done

      fits : (p.done + 1) % 2 ^ 64 ≡ p.done + 1
      fits =
          let room = done_fits caller (put_in c.share (suc c.first) p.place (Done caller) (suc c.first)) (c.len c.first) in
          omega (arith, one_more, room, most)

      here : is_settled (put_in c.place c.first p.place place c.first p.place) ≡ true
      here = rw (eq-eqb c.first c.first refl, eq-eqb p.place p.place refl) over

      all_settled : p.whole ≡ true → (j : ℕ) → j < p.place + 1 → is_settled (put_in c.place c.first p.place place c.first j) ≡ true
      all_settled whole = settled_next (put_in c.place c.first p.place place c.first) p.place
          (settled_below c.place c.first p.place place (settled whole)) here
