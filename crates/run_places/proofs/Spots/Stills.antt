-- Where a pair of the map lies that a table names as one that is not being copied: there, if no later table names it.
use Rattle.std.specs.Prelude.{◌≡◌, ℕ, ◌≤◌, Bool, true, false}
use Rattle.std.proofs.Common.{refl, ap, sym, ◌∙◌, arith, inl, inr}
use Rattle.std.proofs.lemmas.Bool.{cases_lt}
use Rattle.run_shows.specs.Given.RunsDeclared.effect.Spot.{Spot}
use Rattle.run_shows.specs.Given.RuleChart.{Still, Holds, Chart}
use Rattle.run_shows.specs.Given.RuleRule.{IsLawful, Rule}
use Rattle.run_shows.specs.Given.RuleMaps.{spot_of}
use Rattle.run_shows.proofs.Given.RuleMoves.StoodAlone.{alone_there, never_later}
use Rattle.run_places.specs.Spots.Spots.{named_by, spot_in, LiesAt}
use Rattle.run_places.proofs.Spots.Names.{holds_is}

module _ {K : Type 0} (same : K → K → Bool) (hash : K → ℕ) (lawful : IsLawful same (spot_of hash)) (c : Chart K) (t i n : ℕ) (borrowed : Bool) (has : c.place t i ≡ Holds n Still borrowed) where
  pub still_spot : (x : Bool) → Rule same (spot_of hash) x c → (x ≡ false → t ≡ c.first) → (at : Spot) (born : ℕ) → LiesAt c x n at born → at ≡ spot_in t i
  still_spot true r root at born h =
      let it = holds_is (c.place at.turn at.place) n _ h.1 in
      let before : t ≤ at.turn = h.2 t i borrowed (ap named_by has) in
      let turn : at.turn ≡ t = elim (cases_lt t at.turn) as (λ _. at.turn ≡ t) [
        | inl l ↦ absurd (never_later same (spot_of hash) lawful c r.common r.in_mode t at.turn i at.place n it.0 borrowed _ has it.1 l)
        | inr l ↦ omega (arith, l, before)
      ] in
      let place = (alone_there same (spot_of hash) true lawful c r.common t at.place i n it.0 Still _ borrowed (r.in_mode.never_aborted t) (ap (λ (x : ℕ). c.place x at.place) (sym turn) ∙ it.1) has).0 in
      ap (λ (x : ℕ). spot_in x at.place) turn ∙ ap (spot_in t) place
  still_spot false r root at born h =
      let it = holds_is (c.place at.turn at.place) n false h.1 in
      let is_root : t ≡ c.first = root refl in
      let turn : at.turn ≡ t = h.0 ∙ sym is_root in
      let place = (alone_there same (spot_of hash) false lawful c r.common c.first at.place i n it.0 Still false borrowed r.common.live
      (ap (λ (x : ℕ). c.place x at.place) (sym h.0) ∙ it.1) (ap (λ (x : ℕ). c.place x i) (sym is_root) ∙ has)).0 in
      ap (λ (x : ℕ). spot_in x at.place) turn ∙ ap (spot_in t) place
