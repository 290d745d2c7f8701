-- The pair that a sweep has read, and shows or asks about, is in the memory, and the section of its slot holds it.
use Rattle.std.specs.Prelude.{Option, Some, None}
use Rattle.std.proofs.Common.{◌≡◌, ℕ, ◌<◌, ◌^◌, Bool, true, inl, inr, refl, sym, subst, ap, ◌∙◌}
use Rattle.seize_words.specs.OneMemory.Mem.{Mem, value_at}
use Rattle.seize_words.specs.OneMemory.Word.{block_in}
use Rattle.seize.specs.Law.{holds, owner_of}
use Rattle.map_tables.specs.declared.node.Node.{Node}
use Rattle.map_tables.specs.declared.node.Node.TheVariants.{Pair}
use Rattle.papaya_raw.specs.Given.ReservesDeclared.sweep.Sweeping.{Sweeping}
use Rattle.papaya_raw.specs.Given.ReservesDeclared.sweep.Sweeping.TheVariants as at
use Rattle.papaya_raw.specs.Given.ReservesDeclared.sweep.Swept.TheVariants as swept
use Rattle.papaya_raw.specs.declared.machines.machine.Machine.{Machine}
use Rattle.papaya_raw.specs.declared.machines.machine.Machine.TheVariants as kinds
use Rattle.papaya_raw.specs.declared.machines.progress.Progress.{Progress}
use Rattle.papaya_raw.specs.declared.machines.progress.Progress.TheVariants as progress
use Rattle.seize_words.proofs.General.{same_some}
use Rattle.many_acts.specs.Given.CallersTogether.{UnderWay, OnKey, ForRoom, Counting as Counts, OverAll}
use Rattle.many_acts.specs.Given.LateFactsSweeps.{CopiesPairs}
use Rattle.many_acts.specs.Given.CallersOverAll.{CallOverAll}
use Rattle.many_acts.specs.Given.CallersSights.{seen_by}
use Rattle.map_straight.specs.Given.RuleChart.{Chart, Phase, Holds}
use Rattle.map_straight.specs.Given.RuleWords.{Blocks, byte_of, place_word}
use Rattle.papaya_raw.specs.Progress.{of_swept}
use Rattle.map_straight.proofs.Given.RuleWords.PlaceWords.{pair_block}
use Rattle.map_straight.proofs.Given.RuleWords.PlacesShown.{byte_of-few}
use Rattle.many_acts.specs.Given.FinishesEndings.{EndingsTogether}
use Rattle.many_acts.specs.Given.FinishesMachines.{machine_of, DidOfKind, MachineStepsWithEndings}
use Rattle.many_acts.specs.Given.FinishesMaps.{Standing}
use Rattle.many_acts.specs.Given.ScenesScene.{Scene, slot_of}
use Rattle.threads_kinds.specs.CallKinds.Shows.{ReadsPlaces, ReadsWord, ProgressNamesPair}

-- what reads the word of a place copies nothing
reads_alone : (s : Sweeping) → ReadsWord s → CopiesPairs s → ⊥
reads_alone (at.Copies copier) reads copies = reads
reads_alone _ reads copies = copies

-- the word of a pair that was told,
abbrev word_of : {T : Type 0} → Progress T → Option ℕ
word_of (progress.Pair word) = Some word
word_of (progress.Asks word) = word
word_of _ = None

tells_it : {T : Type 0} (told : Progress T) (word : ℕ) → word_of told ≡ Some word → ProgressNamesPair told word
tells_it (progress.Pair other) word is = same_some other word is
tells_it (progress.Asks (Some other)) word is = same_some other word is
tells_it (progress.Asks None) word is = absurd (cc is)
tells_it progress.Goes word is = absurd (cc is)
tells_it progress.Waits word is = absurd (cc is)
tells_it progress.Ready word is = absurd (cc is)
tells_it (progress.Gave value) word is = absurd (cc is)
tells_it (progress.Unstored value) word is = absurd (cc is)
tells_it (progress.Done answer) word is = absurd (cc is)
tells_it (progress.Refused fault) word is = absurd (cc is)

it_tells : {T : Type 0} (told : Progress T) (word : ℕ) → ProgressNamesPair told word → word_of told ≡ Some word
it_tells (progress.Pair other) word is = ap Some is
it_tells (progress.Asks (Some other)) word is = ap Some is
it_tells (progress.Asks None) word is = absurd is
it_tells progress.Goes word is = absurd is
it_tells progress.Waits word is = absurd is
it_tells progress.Ready word is = absurd is
it_tells (progress.Gave value) word is = absurd is
it_tells (progress.Unstored value) word is = absurd is
it_tells (progress.Done answer) word is = absurd is
it_tells (progress.Refused fault) word is = absurd is

abbrev read_at : {T : Type 0} → Sweeping → Progress T → Option ℕ
read_at at.Words told = word_of told
read_at (at.Tries word) told = word_of told
read_at _ told = None

read_so : {T : Type 0} (s : Sweeping) (told : Progress T) (word : ℕ) → read_at s told ≡ Some word → ReadsWord s × ProgressNamesPair told word
read_so at.Words told word is = (tt, tells_it told word is)
read_so (at.Tries other) told word is = (tt, tells_it told word is)
read_so _ told word is = absurd (cc is)

so_read : {T : Type 0} (s : Sweeping) (told : Progress T) (word : ℕ) → ReadsWord s → ProgressNamesPair told word → read_at s told ≡ Some word
so_read at.Words told word reads tells = it_tells told word tells
so_read (at.Tries other) told word reads tells = it_tells told word tells
so_read _ told word reads tells = absurd reads

module _ {K V Q : Type 0} where
  -- if the step of this call has read it
  abbrev pub read_word : Machine K V Q → Progress (Node K V) → Option ℕ
  read_word (kinds.Sweep c) told = read_at c.stands told
  read_word _ told = None

  pub was_read : (machine : Machine K V Q) (told : Progress (Node K V)) (word : ℕ) → read_word machine told ≡ Some word → ReadsPlaces machine × ProgressNamesPair told word
  was_read (kinds.Sweep c) told word is = read_so c.stands told word is
  was_read (kinds.Key c) told word is = absurd (cc is)
  was_read (kinds.Reserve c) told word is = absurd (cc is)
  was_read (kinds.Count c) told word is = absurd (cc is)

  pub is_read : (machine : Machine K V Q) (told : Progress (Node K V)) → ReadsPlaces machine → (word : ℕ) → ProgressNamesPair told word → read_word machine told ≡ Some word
  is_read (kinds.Sweep c) told reads word tells = so_read c.stands told word reads tells
  is_read (kinds.Key c) told reads word tells = absurd reads
  is_read (kinds.Reserve c) told reads word tells = absurd reads
  is_read (kinds.Count c) told reads word tells = absurd reads

module _ {K V : Type 0} (same : K → K → Bool) (batch_size roots : ℕ) (s : Scene K V)
    (all : EndingsTogether V same same batch_size roots slot_of s.world s.maps s.calls s.makers s.enders) (m : ℕ) (it : Standing K) (here : s.maps m ≡ Some it) (i : ℕ) (u : UnderWay K V K)
    (has : s.calls m i ≡ Some u) (m2 : Mem (Node K V)) (machine : Machine K V K) (told : Progress (Node K V))
    (did : MachineStepsWithEndings V same same batch_size roots slot_of s.world s.maps s.calls s.makers s.enders m it i m2 u machine told) where
  abbrev Did : UnderWay K V K → Type 0
  Did x = DidOfKind V same same batch_size roots slot_of s.world s.maps s.calls s.makers s.enders m it i m2 did.w2 did.maps2 did.next x machine told

  -- the section holds a block of the map
  abbrev pub IsOurs : ℕ → Type 0
  IsOurs b = (holds (slot_of i) b s.world.log ≡ true) × (owner_of b s.world.log ≡ it.setting.counter)

  -- it is there with its value, and held
  abbrev pub IsThere : ℕ → Type 0
  IsThere word = (key : K) × (value : V) × (value_at m2 (block_in word) ≡ Some (Pair key value)) × IsOurs (block_in word)

  fits : (k : K) → it.hash k < 2 ^ 64
  fits = (all.makings.standing.fit m it here).0.fits

  abbrev seen : Blocks
  seen = seen_by it.blocks (it.sights (slot_of i))

  -- the section of its slot holds what may be looked at
  held : (o : CallOverAll) → s.calls m i ≡ Some (OverAll o) → (n : ℕ) → n < it.chart.stored → seen.pair_known n ≡ true → IsOurs (seen.pair n)
  held o at_i n was known =
      let together = all.makings.standing.each m it here in
      let sight = together.ground.sight (slot_of i) (together.inside i (OverAll o) at_i) in (sight.1.pairs n was known, together.ground.owned.pairs n was (sight.0.pairs n was known))

  -- a pair that a place has is there
  module _ (w n : ℕ) (phase : Phase) (borrowed : Bool) (c2 : Chart K) (blocks2 : Blocks) (w2 : Mem (Node K V)) (less : n < c2.stored) (known : blocks2.pair_known n ≡ true)
      (is : w ≡ place_word it.hash c2 blocks2 (Holds n phase borrowed)) (stored : c2.stored ≡ it.chart.stored) (back : n < it.chart.stored → seen.pair_known n ≡ true)
      (same_pair : n < it.chart.stored → seen.pair_known n ≡ true → blocks2.pair n ≡ seen.pair n)
      (holds_it : n < it.chart.stored → seen.pair_known n ≡ true → IsOurs (seen.pair n)) (key : K) (value : V)
      (there : value_at w2 (blocks2.pair n) ≡ Some (Pair key value)) (memory : w2 ≡ m2) where
    was : n < it.chart.stored
    was = subst (λ (x : ℕ). n < x) stored less

    block : block_in w ≡ blocks2.pair n
    block = ap block_in is ∙ pair_block blocks2.pair (λ k. byte_of it.hash (c2.key k)) n phase borrowed (byte_of-few it.hash fits (c2.key n))

    is_there : IsThere w
    is_there = (
      key,
      value,
      ap (λ (x : Mem (Node K V)). value_at x (block_in w)) (sym memory) ∙ ap (λ (b : ℕ). value_at w2 b) block ∙ there,
      subst IsOurs (sym (block ∙ same_pair was (back was))) (holds_it was (back was)),
    )

  as_told : (word : ℕ) (other : Progress (Node K V)) → ProgressNamesPair told word → told ≡ other → ProgressNamesPair other word
  as_told word other tells is = subst (λ (p : Progress (Node K V)). ProgressNamesPair p word) is tells

  pub pair_told : ReadsPlaces (machine_of u) → (word : ℕ) → ProgressNamesPair told word → IsThere word
  pair_told reads word tells = by u has reads did.did
    where
      none : (other : Progress (Node K V)) → told ≡ other → (ProgressNamesPair other word → ⊥) → IsThere word
      none other is not = absurd (not (as_told word other tells is))

      by : (x : UnderWay K V K) → s.calls m i ≡ Some x → ReadsPlaces (machine_of x) → Did x → IsThere word
      by (OnKey c) at_i reads_it done = absurd reads_it
      by (ForRoom c) at_i reads_it done = absurd reads_it
      by (Counts c) at_i reads_it done = absurd reads_it
      by (OverAll o) at_i reads_it (p2, swept.Goes, e, f, step) = none (of_swept swept.Goes) f (λ x. x)
      by (OverAll o) at_i reads_it (p2, swept.Waits, e, f, step) = none (of_swept swept.Waits) f (λ x. x)
      by (OverAll o) at_i reads_it (p2, swept.Gave value, e, f, step) = none (of_swept (swept.Gave value)) f (λ x. x)
      by (OverAll o) at_i reads_it (p2, swept.Ready, e, f, step) = none (of_swept swept.Ready) f (λ x. x)
      by (OverAll o) at_i reads_it (p2, swept.Done, e, f, step) = none (of_swept swept.Done) f (λ x. x)
      by (OverAll o) at_i reads_it (p2, swept.Refused fault, e, f, step) = none (of_swept (swept.Refused fault)) f (λ x. x)
      by (OverAll o) at_i reads_it (p2, swept.Pair w, e, f, inr (to, stayed)) = let silent = to.step.silent in absurd (cc silent)
      by (OverAll o) at_i reads_it (p2, swept.Asks w, e, f, inr (to, stayed)) = let silent = to.step.silent in absurd (cc silent)
      by (OverAll o) at_i reads_it (p2, swept.Pair w, e, f, inl (to, moved)) =
          let shows = to.step.shows w refl in let went = to.step.went in let value = went.map.map.shows.pairs shows.0 shows.1.0 shows.1.1 in
          subst IsThere (as_told word (of_swept (swept.Pair w)) tells f)
          (is_there w shows.0 shows.1.2 shows.1.3 went.c2 went.blocks2 went.w2.memory shows.1.0 shows.1.1 shows.1.4
          (elim (went.told.beside (reads_alone o.sweep.stands reads_it)) as (λ _. went.c2.stored ≡ it.chart.stored) [
            | inl is ↦ ap (λ (c : Chart K). c.stored) is
            | inr removes ↦ ap (λ (c : Chart K). c.stored) removes.2
          ])
          (λ less. went.blocks_same.pairs_back shows.0 less shows.1.1) (λ less known. (went.blocks_same.pairs shows.0 less known).0) (held o at_i shows.0) value.0 value.1 value.2 went.memory)
      by (OverAll o) at_i reads_it (p2, swept.Asks w, e, f, inl (to, moved)) =
          let shows = to.step.shows w refl in let went = to.step.went in let value = went.map.map.shows.pairs shows.0 shows.1.0 shows.1.1 in
          subst IsThere (as_told word (of_swept (swept.Asks w)) tells f)
          (is_there w shows.0 shows.1.2 shows.1.3 went.c2 went.blocks2 went.w2.memory shows.1.0 shows.1.1 shows.1.4
          (elim (went.told.beside (reads_alone o.sweep.stands reads_it)) as (λ _. went.c2.stored ≡ it.chart.stored) [
            | inl is ↦ ap (λ (c : Chart K). c.stored) is
            | inr removes ↦ ap (λ (c : Chart K). c.stored) removes.2
          ])
          (λ less. went.blocks_same.pairs_back shows.0 less shows.1.1) (λ less known. (went.blocks_same.pairs shows.0 less known).0) (held o at_i shows.0) value.0 value.1 value.2 went.memory)
