-- What the word of a try tells of its place: where the table is the last one it is taken, and a pair lies there if the word names one.
use Rattle.std.specs.Prelude.{◌≡◌, ◌≢◌, ℕ, suc, ◌<◌, ◌≤◌, ◌==◌, ◌^◌, Bool, true, false, cond, Some, if◌then◌else◌}
use Rattle.std.proofs.Common.{refl, ap, sym, subst, ◌∙◌, arith, inl, inr}
use Rattle.std.proofs.lemmas.Bool.{cases_eq, ne_eqb}
use Rattle.run_finds.specs.Given.SeizeWordsMem.{Mem, word_at}
use Rattle.run_finds.specs.Given.SeizeWordsWord.{block_in}
use Rattle.papaya_raw.specs.Given.TablesChunks.{is_incremental}
use Rattle.papaya_raw.specs.Given.TablesFinding.{finding}
use Rattle.papaya_raw.specs.Given.TablesTablePlaces.{at_place}
use Rattle.papaya_raw.specs.Given.TablesTrials.{place_tried}
use Rattle.papaya_raw.specs.Given.TablesDeclared.finding.Aim.{Aim}
use Rattle.papaya_raw.specs.Given.TablesDeclared.finding.Finding.TheVariants as finds
use Rattle.papaya_raw.specs.Given.TablesDeclared.node.Node.{Node}
use Rattle.papaya_raw.specs.Given.TablesDeclared.resize_mode.ResizeMode.{ResizeMode}
use Rattle.papaya_raw.specs.Given.TablesDeclared.table.Table.{Table}
use Rattle.papaya_raw.specs.Given.TablesDeclared.trial.Trial.{Trial}
use Rattle.run_schedules.specs.Schedules.Moment.{Moment}
use Rattle.run_schedules.specs.Schedules.Tries.{FindsTaken, try_at}
use Rattle.run_schedules.specs.Schedules.Views.{is_in_map}
use Rattle.run_finds.specs.Given.RuleChart.{Chart, Copied, Copying, Empty, Holds, Phase, Place, Share, Still, Tombstone, is_marked}
use Rattle.run_finds.specs.Given.RuleMaps.{IsMap, IsTrial, spot_at, spot_of}
use Rattle.run_finds.specs.Given.RuleRule.{Agrees, IsLawful, Rule}
use Rattle.run_finds.specs.Given.RuleWords.{Blocks, byte_of, place_word}
use Rattle.run_finds.proofs.Given.RuleKeys.TriesSeen.{spot_inside}
use Rattle.run_finds.proofs.Given.RuleWords.PlaceWords.{pair_block}
use Rattle.run_finds.proofs.Given.RuleWords.PlacesShown.{are_stored, byte_of-few, shown_block, shown_byte}
use Rattle.run_finds.proofs.Given.RuleWords.TablesSeen.{place_there}
use Rattle.run_finds.proofs.Given.RuleWords.WordsSeen.{Says, says}
use Rattle.run_finds.specs.Given.EffectsKnown.{Known}
use Rattle.run_finds.specs.Given.FinishesMaps.{Standing}
use Rattle.run_finds.specs.Given.FollowsMaps.{RefinesMap}
use Rattle.run_finds.specs.Given.SpotsSpots.{LiesAt, named_by, spot_in}
use Rattle.run_finds.proofs.Given.SpotsStills.{still_spot}
use Rattle.run_finds.proofs.Given.SpotsTaken.{no_pair_there, pair_there, taken_there}
use Rattle.run_grows.specs.Sources.Sources.{WereLeft}

-- In the last table of a map, which is the root where all pairs are copied at once, nothing is marked.
module _ {K : Type 0} (same : K → K → Bool) (hash : K → ℕ) (c : Chart K) (t : ℕ) (last : suc t ≡ c.past) where
  from_root : Rule same (spot_of hash) true c → c.first ≤ t
  from_root rule = let root = rule.common.rooted (omega (arith, last)) in omega (arith, last, root)

  last_home : (b : Bool) → Rule same (spot_of hash) b c → (b ≡ false → t ≡ c.first) → cond b (c.first ≤ t) (t ≡ c.first)
  last_home true rule root = from_root rule
  last_home false rule root = root refl

  last_unmarked : (b : Bool) → Rule same (spot_of hash) b c → (b ≡ false → t ≡ c.first) → (i : ℕ) → i < c.len t → is_marked (c.place t i) ≡ false
  last_unmarked true rule root i inside =
      elim (cases_eq t c.first) as (λ _. is_marked (c.place t i) ≡ false) [
        | inl at_root ↦ subst (λ (x : ℕ). is_marked (c.place x i) ≡ false) (sym at_root) (agrees at_root)
        | inr later ↦ (let from = from_root rule in rule.common.unmarked t i (omega (arith, from, later)))
      ]
    where
      agrees : t ≡ c.first → is_marked (c.place c.first i) ≡ false
      agrees at_root =
          subst (λ (s : Share). Agrees s (c.place c.first i)) (rule.common.unshared (suc c.first) i (omega (arith, last, at_root)))
          (rule.in_mode.shares i (subst (λ (x : ℕ). i < c.len x) at_root inside))
  last_unmarked false rule root i inside = subst (λ (x : ℕ). is_marked (c.place x i) ≡ false) (sym (root refl)) (by (is_marked (c.place c.first i)) refl)
    where
      by : (b : Bool) → is_marked (c.place c.first i) ≡ b → is_marked (c.place c.first i) ≡ false
      by true e = absurd (let next = rule.in_mode.marked_has_next i e in let at_root = root refl in omega (arith, next, last, at_root))
      by false e = e

module _ {K V : Type 0} (same : K → K → Bool) (map : ℕ) (number : ℕ → ℕ) (s : Standing K) (fits : (k : K) → s.hash k < 2 ^ 64) (lawful : IsLawful same (spot_of s.hash)) (mem : Mem (Node K V)) (seen : Blocks)
    (is_map : IsMap same s.hash s.setting.mode s.setting.root mem s.chart seen) (m : Moment K V) (known : Known) (shown : RefinesMap map number s m known)
    (lies : (n : ℕ) → s.chart.current n ≡ true → LiesAt s.chart (is_incremental s.setting.mode) n (m.spot (number n)) (m.born (number n)).turn) (left : WereLeft s.chart map m)
    (trial : Trial) (code t j : ℕ) (at : IsTrial s.chart seen trial code t j) where
  abbrev c : Chart K
  c = s.chart

  abbrev i : ℕ
  i = spot_at (c.len t) code j

  abbrev here : Place
  here = c.place t i

  -- it is the same place
  pub at_try : try_at trial.table.turn trial.table.len code trial.probe.len ≡ spot_in t i
  at_try = ap (λ (x : Table). try_at x.turn x.len code trial.probe.len) at.table.is ∙ ap (λ (n : ℕ). try_at t (c.len t) code n) at.try

  inside : i < c.len t
  inside = spot_inside (c.len t) code j (is_map.rule.common.lens t at.table.made).0

  word_there : word_at mem (place_tried trial) ≡ Some (place_word s.hash c seen here)
  word_there = ap (λ (x : ℕ). word_at mem (at_place trial.table x)) at.place ∙ place_there s.hash mem c seen s.setting.root is_map.shows trial.table t at.table i inside

  word_is : (word : ℕ) → word_at mem (place_tried trial) ≡ Some word → word ≡ place_word s.hash c seen here
  word_is word e = let both = sym e ∙ word_there in cc both

  -- where the table is the last one
  module _ (last : suc t ≡ c.past) (root : is_incremental s.setting.mode ≡ false → t ≡ c.first) where
    unmarked : is_marked here ≡ false
    unmarked = last_unmarked same s.hash c t last (is_incremental s.setting.mode) is_map.rule root i inside

    abbrev At : ℕ → Type 0
    At word = FindsTaken map (spot_in t i) m (if block_in word == 0 then 0 else 1)

    names : (n : ℕ) (phase : Phase) (borrowed : Bool) → here ≡ Holds n phase borrowed → (block_in (place_word s.hash c seen (Holds n phase borrowed)) == 0) ≡ false
    names n phase borrowed is =
        let some = shown_block s.hash mem c seen s.setting.root is_map.shows (are_stored same (spot_of s.hash) (is_incremental s.setting.mode) c is_map.rule.common) t i at.table.made at.table.known n phase borrowed is in
        ap (λ (b : ℕ). b == 0) (pair_block seen.pair (λ o. byte_of s.hash (c.key o)) n phase borrowed (byte_of-few s.hash fits (c.key n))) ∙ ne_eqb (seen.pair n) 0 (λ e. omega (arith, some, e))

    of_pair : (n : ℕ) (borrowed : Bool) → here ≡ Holds n Still borrowed → At (place_word s.hash c seen (Holds n Still borrowed))
    of_pair n borrowed is =
        let stored : n < c.stored = (is_map.rule.common.keyed t i n Still borrowed is).0 in
        let current : c.current n ≡ true = is_map.rule.common.is_current t i n Still borrowed is (λ e. cc e) (last_home same s.hash c t last (is_incremental s.setting.mode) is_map.rule root) in
        let spot : m.spot (number n) ≡ spot_in t i = still_spot same s.hash lawful c t i n borrowed is (is_incremental s.setting.mode) is_map.rule root (m.spot (number n)) (m.born (number n)).turn (lies n current) in
        let numbered = shown.pairs.numbered n stored in
        let in_map : is_in_map map (m.place (number n)) ≡ true = shown.pairs.here n stored ∙ current in (
          taken_there map m (number n) (spot_in t i) numbered.0 numbered.1 (shown.pairs.born n stored) spot,
          ap (λ (b : Bool). if b then 0 else 1) (names n Still borrowed is) ∙ sym (ap (λ (b : Bool). if b then 1 else 0) (pair_there map m (number n) (spot_in t i) numbered.0 numbered.1 in_map spot)),
        )

    of_tombstone : (mark : Bool) → here ≡ Tombstone mark → (word : ℕ) → (block_in word == 0) ≡ true → At word
    of_tombstone mark is word vacant =
        let it = left t i mark is in (
          taken_there map m it.0 (spot_in t i) it.1 it.2 it.3 it.4,
          ap (λ (b : Bool). if b then 0 else 1) vacant
              ∙ sym (ap (λ (b : Bool). if b then 1 else 0) (no_pair_there map number s m known shown (is_incremental s.setting.mode) lies t i (λ n b named. let tomb = ap named_by is in cc (named, tomb)))),
        )

    by_place : (p : Place) → here ≡ p → is_marked p ≡ false → place_word s.hash c seen p ≢ 0 → At (place_word s.hash c seen p)
    by_place (Empty true) is free some = absurd (cc free)
    by_place (Empty false) is free some = absurd (some refl)
    by_place (Tombstone true) is free some = absurd (cc free)
    by_place (Tombstone false) is free some = of_tombstone false is 2 refl
    by_place (Holds n Still borrowed) is free some = of_pair n borrowed is
    by_place (Holds n Copying borrowed) is free some = absurd (cc free)
    by_place (Holds n Copied borrowed) is free some = absurd (cc free)

    pub takes_here : (word : ℕ) → word_at mem (place_tried trial) ≡ Some word → word ≢ 0 → At word
    takes_here word e some =
        let is = word_is word e in
        subst At (sym is) (by_place here refl unmarked (λ none. some (is ∙ none)))

    -- and no pair has moved on
    pub moves_none : (mode : ResizeMode) (aim : Aim) (flag : Bool) (word : ℕ) → word_at mem (place_tried trial) ≡ Some word → finding mode aim word flag ≡ finds.Moved → ⊥
    moves_none mode aim flag word e moved = by (subst (Says (λ k. flag) c.key here (is_incremental mode) aim) found so)
      where
        found : finding mode aim (place_word s.hash c seen here) flag ≡ finds.Moved
        found = ap (λ (x : ℕ). finding mode aim x flag) (sym (word_is word e)) ∙ moved

        so : Says (λ k. flag) c.key here (is_incremental mode) aim (finding mode aim (place_word s.hash c seen here) flag)
        so = says (λ k. flag) c.key seen.pair (λ n. byte_of s.hash (c.key n)) mode aim here flag
            (shown_block s.hash mem c seen s.setting.root is_map.shows (are_stored same (spot_of s.hash) (is_incremental s.setting.mode) c is_map.rule.common) t i at.table.made at.table.known)
            (shown_byte s.hash fits c.key here) (λ n phase borrowed is. let it = is_map.rule.common.keyed t i n phase borrowed is in (it.1, it.2)) (λ n phase borrowed k is has. refl)

        by : Says (λ k. flag) c.key here (is_incremental mode) aim finds.Moved → ⊥
        by (inl (incremental, n, borrowed, holds)) = let mark = ap is_marked holds.0 in let free = unmarked in cc (mark, free)
        by (inr (alone, looks_none, mark)) = let free = unmarked in cc (mark, free)
