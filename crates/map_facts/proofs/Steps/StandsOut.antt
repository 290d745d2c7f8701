-- A pair that was replaced or removed has left the map. In incremental mode a borrowed one stands in older tables alone; each other one is named by no table that is linked.
use Rattle.std.proofs.Common.{◌≡◌, ◌≢◌, ℕ, ◌<◌, ◌≤◌, Bool, true, false, cond, ◌⊎◌, inl, inr, ap, sym, ◌∙◌, eq-or-lt_of_le, arith}
use Rattle.papaya_raw.specs.Given.SeizeWorld.{World}
use Rattle.papaya_raw.specs.Given.TablesDeclared.node.Node.{Node}
use Rattle.papaya_raw.specs.Given.TablesDeclared.setting.Setting.{Setting}
use Rattle.papaya_raw.specs.Given.TablesDeclared.status.TheConstants.Status.{ABORTED}
use Rattle.map_rule.specs.Chart.{Phase, Still, Copying, Place, Tombstone, Holds, Chart, put_in}
use Rattle.map_rule.specs.Rule.{IsLawful, is_of, Rule}
use Rattle.map_rule.specs.Moves.{Replaces, Removes, after, MayChange}
use Rattle.map_rule.specs.Words.{Blocks}
use Rattle.map_facts.specs.FactsDisposes.{HasLeft, LiesBefore, LiesNowhere}
use Rattle.map_rule.proofs.Stores.Exchanges.{without_pair}
use Rattle.map_rule.proofs.Moves.StoodAlone.{alone_there}
use Rattle.map_rule.proofs.World.TakenOut.{replaced_left_older, replaced_left_nowhere, replaced_left_aborted, tombstone_left_older, tombstone_left_nowhere, tombstone_left_aborted}
use Rattle.map_rule.proofs.Moves.Writes.{stands_new}

module _ {K V : Type 0} (same : K → K → Bool) (spot : ℕ → K → ℕ → ℕ) (w : World (Node K V)) (caller : ℕ) (setting : Setting) (blocks : Blocks) where
  -- where a pair stands that was taken out of a table
  abbrev pub StandsOut : Bool → Bool → Chart K → ℕ → ℕ → Type 0
  StandsOut incremental borrowed c n t = cond (cond incremental borrowed false) (LiesBefore w caller setting c blocks n t) (LiesNowhere w caller setting c blocks n)

  module _ (lawful : IsLawful same spot) (c : Chart K) (t i n : ℕ) (k : K) where
    -- at once, where it stands no more in the root
    nowhere : Rule same spot false c → (borrowed : Bool) → c.place t i ≡ Holds n Still borrowed → t ≡ c.first → (v : Place)
        → ((u j : ℕ) (phase : Phase) (borrowed2 : Bool) → c.first ≤ u → c.status u ≢ ABORTED → put_in c.place t i v u j ≢ Holds n phase borrowed2)
        → (u j : ℕ) (phase : Phase) (borrowed2 : Bool) → c.first ≤ u → put_in c.place t i v u j ≢ Holds n phase borrowed2
    nowhere rule borrowed stood root v live u j phase borrowed2 far e = by (eq-or-lt_of_le far)
      where
        twice : (l : ℕ) → c.place c.first l ≡ Holds n Copying false → ⊥
        twice l moving =
            let g : c.place c.first i ≡ Holds n Still borrowed = ap (λ (x : ℕ). c.place x i) (sym root) ∙ stood in
            let p = (alone_there same spot false lawful c rule.common c.first i l n Still Copying borrowed false rule.common.live g moving).1 in
            cc p

        by : (c.first ≡ u) ⊎ (c.first < u) → ⊥
        by (inl here) = live u j phase borrowed2 far (λ (s : c.status u ≡ ABORTED). rule.common.live (ap c.status here ∙ s)) e
        by (inr later) = at (stands_new c.place t i v (Holds n phase borrowed2) u j e)
          where
            at : ((u ≡ t) × (j ≡ i) × (v ≡ Holds n phase borrowed2)) ⊎ (((u ≡ t) → (j ≡ i) → ⊥) × (c.place u j ≡ Holds n phase borrowed2)) → ⊥
            at (inl new) = let here = new.0 in absurd (omega (arith, later, here, root))
            at (inr old) = let m = rule.in_mode.sources u j n phase borrowed2 later old.1 in twice m.0 m.1

    module _ (incremental : Bool) (rule : Rule same spot incremental c) (borrowed : Bool) (stood : c.place t i ≡ Holds n Still borrowed) (known : blocks.pair_known n ≡ true) where
      pub replaced_has_left : HasLeft w caller setting (after spot incremental (Replaces t i k) c) blocks n
      replaced_has_left =
          let there = (rule.common.keyed t i n Still borrowed stood).0 in
          let less = without_pair spot incremental (c.place t i) n Still borrowed c.current stood n in
          (omega (arith, there), known, grind (arith, there, less))

      pub tombstone_has_left : HasLeft w caller setting (after spot incremental (Removes t i) c) blocks n
      tombstone_has_left =
          let there = (rule.common.keyed t i n Still borrowed stood).0 in
          let less = without_pair spot incremental (c.place t i) n Still borrowed c.current stood n in
          (there, known, grind (arith, less))

    pub replaced_stands : (incremental : Bool) → Rule same spot incremental c → (borrowed : Bool) → c.place t i ≡ Holds n Still borrowed
        → is_of same spot incremental k (c.key n) ≡ true → MayChange same spot incremental c t k
        → StandsOut incremental borrowed (after spot incremental (Replaces t i k) c) n t
    replaced_stands true rule true stood own may = λ u j phase borrowed2 e. (replaced_left_older same spot lawful c rule t i n true k stood own may u j phase borrowed2 e).0
    replaced_stands true rule false stood own may = λ u j phase borrowed2 far made. replaced_left_nowhere same spot lawful c rule t i n k stood own may u j phase borrowed2
    replaced_stands false rule borrowed stood own may = λ u j phase borrowed2 far made.
        nowhere rule borrowed stood may (Holds c.stored Still false) (replaced_left_aborted same spot lawful c rule t i n borrowed k stood own may) u j phase borrowed2 far

    pub tombstone_stands : (incremental : Bool) → Rule same spot incremental c → (borrowed : Bool) → c.place t i ≡ Holds n Still borrowed
        → is_of same spot incremental k (c.key n) ≡ true → MayChange same spot incremental c t k
        → StandsOut incremental borrowed (after spot incremental (Removes t i) c) n t
    tombstone_stands true rule true stood own may = λ u j phase borrowed2 e. (tombstone_left_older same spot lawful c rule t i n true k stood own may u j phase borrowed2 e).0
    tombstone_stands true rule false stood own may = λ u j phase borrowed2 far made. tombstone_left_nowhere same spot lawful c rule t i n k stood own may u j phase borrowed2
    tombstone_stands false rule borrowed stood own may = λ u j phase borrowed2 far made.
        nowhere rule borrowed stood may (Tombstone false) (tombstone_left_aborted same spot lawful c rule t i n borrowed k stood own may) u j phase borrowed2 far
