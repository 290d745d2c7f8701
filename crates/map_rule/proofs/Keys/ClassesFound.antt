-- Whether the map has a pair of the keys that are looked for: it has none where their try is free, and has the one that is found.
use Rattle.std.proofs.Common.{◌≡◌, ◌≢◌, ℕ, ◌<◌, ◌≤◌, Bool, true, false, ◌⊎◌, inl, inr, refl, ap, sym, ◌∙◌}
use Rattle.std.proofs.lemmas.Bool.{cases_lt, cases_order}
use Rattle.map_machines.specs.Given.TablesDeclared.status.TheConstants.Status.{ABORTED}
use Rattle.map_machines.specs.Given.TablesDeclared.finding.Aim.{Aim}
use Rattle.map_rule.specs.Chart.{Phase, Copied, Place, Empty, Holds, Chart, is_taken, is_settled}
use Rattle.map_rule.specs.Rule.{IsLawful, is_of, tried, Passed, IsHome, Common, Rule}
use Rattle.map_rule.specs.Maps.{spot_at, spot_of, IsClass, NoneBefore, IsAbsent, IsPair}
use Rattle.map_rule.proofs.Moves.Shuts.{on_class_path, settled_copied}
use Rattle.map_rule.proofs.Keys.Absent.{no_current_in_root, no_current_incremental}
use Rattle.map_rule.proofs.Words.WordsSeen.{HoldsPair, SaysFree}
use Rattle.map_rule.proofs.Keys.ClassesSeen.{absent_of, tried_is}

module _ {K : Type 0} (same : K → K → Bool) (spot : ℕ → K → ℕ → ℕ) where
  -- Behind tries that are passed, at a place that is not taken: the table has no pair of the class.
  pub none_at_untaken : (incremental : Bool) → IsLawful same spot → (c : Chart K) → Common same spot incremental c → (t : ℕ) (k : K) (j : ℕ)
      → c.status t ≢ ABORTED → Passed same spot incremental c t k j → is_taken incremental (tried same spot incremental c t k j) ≡ false
      → (i n : ℕ) (phase : Phase) (borrowed : Bool) → c.place t i ≡ Holds n phase borrowed → is_of same spot incremental k (c.key n) ≡ true → ⊥
  none_at_untaken incremental lawful c inv t k j live passed untaken i n phase borrowed at is =
      let path = on_class_path same spot incremental lawful c inv k t i n phase borrowed live at is in
      by_order path.0 (cases_order path.0 j) (ap (c.place t) path.2 ∙ at) (path.3 j)
    where
      by_order : (g : ℕ) → (g ≡ j) ⊎ ((g < j) ⊎ (j < g)) → tried same spot incremental c t k g ≡ Holds n phase borrowed
          → (j < g → is_taken incremental (tried same spot incremental c t k j) ≡ true) → ⊥
      by_order g (inl e) here taken =
          let there : tried same spot incremental c t k j ≡ Holds n phase borrowed = ap (tried same spot incremental c t k) (sym e) ∙ here in
          cc (ap (is_taken incremental) there)
      by_order g (inr (inl l)) here taken = cc ((passed g l).1)
      by_order g (inr (inr l)) here taken = cc (taken l)

  -- in incremental mode, a place of a table before the root where something is left stands in no table that is there
  pub home_unsettled : (c : Chart K) → Rule same spot true c → (t i : ℕ) → i < c.len t → is_settled (c.place t i) ≡ false → c.first ≤ t
  home_unsettled c rule t i inside left = by_order (cases_lt t c.first)
    where
      by_order : (t < c.first) ⊎ (c.first ≤ t) → c.first ≤ t
      by_order (inl l) = absurd (cc (rule.in_mode.settled t i l inside))
      by_order (inr l) = l

module _ {K : Type 0} (same : K → K → Bool) (hash : K → ℕ) (lawful : IsLawful same (spot_of hash)) (keys : K → Bool) (code : ℕ) (class : IsClass same hash keys code) (c : Chart K) where
  -- in incremental mode, their try is at an empty place
  free_incremental : Rule same (spot_of hash) true c → (t j : ℕ) → j ≤ c.limit t → spot_at (c.len t) code j < c.len t → NoneBefore same hash true c keys t j
      → c.place t (spot_at (c.len t) code j) ≡ Empty false → IsAbsent same hash true c keys
  free_incremental rule t j most inside none empty = absent_of same hash lawful keys code class true c (λ k asked.
      no_current_incremental same (spot_of hash) lawful c rule t k j (none k asked).1 (none k asked).0 (tried_is same hash lawful keys code class true c t j k asked ∙ empty) most home)
    where
      home : c.first ≤ t
      home = home_unsettled same (spot_of hash) c rule t (spot_at (c.len t) code j) inside (ap is_settled empty)

  -- in blocking mode, it is at an empty place, marked or not
  free_blocking : Rule same (spot_of hash) false c → (t j : ℕ) → NoneBefore same hash false c keys t j
      → is_taken false (c.place t (spot_at (c.len t) code j)) ≡ false → IsAbsent same hash false c keys
  free_blocking rule t j none untaken = absent_of same hash lawful keys code class false c (λ k asked.
      let root = (none k asked).1 in
      no_current_in_root same (spot_of hash) c rule k (λ i n phase borrowed at is.
      none_at_untaken same (spot_of hash) false lawful c rule.common t k j (live root) (none k asked).0
      (ap (is_taken false) (tried_is same hash lawful keys code class false c t j k asked) ∙ untaken) i n phase borrowed (ap (λ x. c.place x i) root ∙ at) is))
    where
      live : t ≡ c.first → c.status t ≢ ABORTED
      live root aborted = rule.common.live (ap c.status (sym root) ∙ aborted)

  pub absent_free : (incremental : Bool) → Rule same (spot_of hash) incremental c → (t j : ℕ) (aim : Aim) → j ≤ c.limit t → spot_at (c.len t) code j < c.len t
      → NoneBefore same hash incremental c keys t j → SaysFree keys c.key (c.place t (spot_at (c.len t) code j)) incremental aim → IsAbsent same hash incremental c keys
  absent_free true rule t j aim most inside none (inl empty) = free_incremental rule t j most inside none empty
  absent_free true rule t j aim most inside none (inr shut) = absurd (cc (shut.1))
  absent_free false rule t j aim most inside none (inl empty) = free_blocking rule t j none (ap (is_taken false) empty)
  absent_free false rule t j aim most inside none (inr shut) = free_blocking rule t j none (ap (is_taken false) shut.0)

  -- a pair of them that stands there is the one that the map has
  pub pair_there : (incremental : Bool) → Rule same (spot_of hash) incremental c → (t i j : ℕ) → i < c.len t → NoneBefore same hash incremental c keys t j
      → (n : ℕ) (phase : Phase) (borrowed : Bool) → HoldsPair keys c.key (c.place t i) n phase borrowed → (incremental ≡ true → phase ≢ Copied) → IsPair same hash incremental c keys n
  pair_there incremental rule t i j inside none n phase borrowed holds uncopied = (rule.common.is_current t i n phase borrowed holds.0 (left incremental rule uncopied) (home incremental rule none uncopied), holds.1, holds.2, holds.3)
    where
      left : (b : Bool) → Rule same (spot_of hash) b c → (b ≡ true → phase ≢ Copied) → phase ≢ Copied
      left true r u = u refl
      left false r u = (r.in_mode.plain t i n phase borrowed holds.0).0

      unsettled : (place : Place) (phase : Phase) → place ≡ Holds n phase borrowed → phase ≢ Copied → is_settled place ≡ false
      unsettled place phase e u = by_test (is_settled place) refl
        where
          by_test : (b : Bool) → is_settled place ≡ b → is_settled place ≡ false
          by_test false is = is
          by_test true is = absurd (u (settled_copied place n phase borrowed is e))

      home : (b : Bool) → Rule same (spot_of hash) b c → NoneBefore same hash b c keys t j → (b ≡ true → phase ≢ Copied) → IsHome same (spot_of hash) b c t
      home true r before u = home_unsettled same (spot_of hash) c r t i inside (unsettled (c.place t i) phase holds.0 (u refl))
      home false r before u = (before holds.1 holds.3).1
