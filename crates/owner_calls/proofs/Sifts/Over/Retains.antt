-- A retaining of one owner's map: what it asks about, how it goes on once it is told, that it asks about fewer and fewer pairs, and what it leaves.
use Rattle.std.specs.Prelude.{◌≡◌, ◌≢◌, ℕ, zero, suc, ◌+◌, ◌<◌, ◌≤◌, Bool, true, false, cond, nat_lt, not, List, [], ◌∷◌, ◌++◌, length, Contains, IsPermutation, Some}
use Rattle.std.proofs.Common.{sym, ◌∙◌, ap, subst, arith, inl, inr}
use Rattle.std.proofs.lemmas.Bool.{cases_eq, lt-ltb}
use Rattle.std.proofs.lemmas.List.{append-nil}
use Rattle.std.proofs.lemmas.List.Elements.{filter-append}
use Rattle.std.proofs.lemmas.List.Sorted.{IsPermutation-to_front, IsPermutation-append_left, length_permutation}
use denote.Ref.{Bor}
use Rattle.seize_words.specs.OneMemory.Mem.{Mem, value_at}
use Rattle.seize_words.specs.OneMemory.Word.{block_in}
use Rattle.map_tables.specs.Chunks.{is_incremental}
use Rattle.map_tables.specs.declared.node.Node.{Node}
use Rattle.map_tables.specs.declared.node.Node.TheVariants as node
use Rattle.map_tables.specs.declared.setting.Setting.{Setting}
use Rattle.papaya_raw.specs.Given.SweepsSweepPoints.{after_reply}
use Rattle.papaya_raw.specs.Given.ReservesDeclared.sweep.Purpose.{Purpose}
use Rattle.papaya_raw.specs.Given.ReservesDeclared.sweep.Purpose.TheVariants.{Walks, Retains}
use Rattle.map_straight.specs.Given.RuleChart.{Chart}
use Rattle.map_straight.specs.Given.RuleWords.{Blocks}
use Rattle.owner_whole.specs.Given.LateCovers.{times}
use Rattle.owner_whole.specs.Given.AloneCounting.{pairs_in}
use Rattle.owner_whole.specs.Given.CallersOverAll.{CallOverAll, with_verdict}
use Rattle.owner_whole.specs.Whole.Limits.{IsForTheLast, IsTheLast}
use Rattle.owner_whole.specs.Whole.SweptPairs.{AreNumbered, NumberedBelow, pairs_of, those, is_done, left_by}
use Rattle.owner_whole.specs.Whole.WholeSweeps.{NamesNew, IsReplied}
use Rattle.owner_whole.proofs.Given.LateKindsKept.Rooms.Sweeping.{told_as_on}
use Rattle.owner_whole.proofs.Whole.Contents.KeptBy.{times_here, times_other}
use Rattle.owner_whole.proofs.Whole.Contents.Numbered.{NumberedLast, numbered_last, numbered_before, numbers_are, numbers_go}
use Rattle.owner_whole.proofs.Whole.Contents.Swept.{shown, asks_once, sweeps_leave}
use Rattle.owner_whole.proofs.Whole.Sweeps.Counting.{telling_counts_nothing, telling_keeps_the_purpose}
use Rattle.owner_whole.proofs.Whole.Sweeps.ToldOn.{sweeps_told_alone}
use Rattle.owner_calls.specs.Owned.Owned.{Holds}
use Rattle.owner_calls.specs.declared.sweeping.OverPairs.{OverPairs}
use Rattle.owner_calls.proofs.Sifts.Over.Sweeps.{Said, Under, UnderAsking, IsDone, goes_over_one, holds_at}
use Rattle.seize_words.proofs.General.{true_or_false as decided}

pub retains_not_walks : Retains ≡ Walks → ⊥
retains_not_walks e = cc e

-- it was not told about this pair
abbrev pub is_new : List ℕ → ℕ → Bool
is_new asked n = not (is_done asked n)

-- those of these that it was not told about
abbrev pub not_yet : {X : Type 0} → List ℕ → List (ℕ × X) → List (ℕ × X)
not_yet asked ns = those (is_new asked) ns

-- how many they are
abbrev pub unasked : {X : Type 0} → List ℕ → List (ℕ × X) → ℕ
unasked asked ns = length (not_yet asked ns)

not_yet_last : {X : Type 0} (asked : List ℕ) (before : List (ℕ × X)) (n : ℕ) (x : X) → not_yet asked (before ++ ((n, x) ∷ [])) ≡ not_yet asked before ++ cond (is_new asked n) ((n, x) ∷ []) []
not_yet_last asked before n x = filter-append (λ y. is_new asked y.0) before ((n, x) ∷ [])

-- a list that has one more at its end: the one that is taken out, or another one
module _ {Y : Type 0} (x : Y) (old new olds news : List Y) where
  taken_last : (y : Y) → y ≡ x → olds ≡ old ++ (y ∷ []) → news ≡ old → IsPermutation olds (x ∷ news)
  taken_last y is o n =
      subst (λ (l : List Y). IsPermutation l (x ∷ news)) (sym o)
      (subst (λ (l : List Y). IsPermutation (old ++ (y ∷ [])) (x ∷ l)) (sym n) (subst (λ (z : Y). IsPermutation (old ++ (y ∷ [])) (z ∷ old)) is (IsPermutation-to_front old y)))

  taken_before : (end : List Y) → olds ≡ old ++ end → news ≡ new ++ end → IsPermutation old (x ∷ new) → IsPermutation olds (x ∷ news)
  taken_before end o n before =
      subst (λ (l : List Y). IsPermutation l (x ∷ news)) (sym o)
      (subst (λ (l : List Y). IsPermutation (old ++ end) (x ∷ l)) (sym n) (IsPermutation-append_left end old (x ∷ new) before))

-- told about one that is new, it is left with all but that
module _ {K V : Type 0} (m : Mem (Node K V)) (c : Chart K) (blocks : Blocks) (q : ℕ) (asked : List ℕ) (new : times q asked ≡ 0) (here : c.current q ≡ true) where
  new_then : is_new asked q ≡ true
  new_then = ap (λ t. not (nat_lt 0 t)) new

  old_now : is_new (q ∷ asked) q ≡ false
  old_now = ap not (lt-ltb 0 (times q (q ∷ asked)) (let e = times_here q asked in omega (arith, e)))

  other_same : (n : ℕ) → n ≢ q → is_new (q ∷ asked) n ≡ is_new asked n
  other_same n other = ap (λ t. not (nat_lt 0 t)) (times_other q n asked other)

  -- the last one, by whether it is new
  abbrev last_of : List (ℕ × (K × V)) → ℕ → K → V → Bool → List (ℕ × (K × V))
  last_of before n k v b = before ++ cond b ((n, (k, v)) ∷ []) []

  same_below : (n : ℕ) → n ≤ q → (ns : List (ℕ × (K × V))) → NumberedBelow m c blocks n ns → not_yet (q ∷ asked) ns ≡ not_yet asked ns
  same_below zero low ns is = ap (not_yet (q ∷ asked)) is ∙ sym (ap (not_yet asked) is)
  same_below (suc n) low ns below = elim (decided (c.current n)) as (λ _. not_yet (q ∷ asked) ns ≡ not_yet asked ns) [
    | inl e ↦
        (let l = numbered_last m c blocks n ns e below in
        ap (not_yet (q ∷ asked)) l.is ∙ not_yet_last (q ∷ asked) l.before n (l.key, l.value)
        ∙ ap (last_of (not_yet (q ∷ asked) l.before) n l.key l.value) (other_same n (λ z. omega (arith, z, low)))
        ∙ ap (λ (ys : List (ℕ × (K × V))). last_of ys n l.key l.value (is_new asked n)) (same_below n (omega (arith, low)) l.before l.below)
        ∙ sym (ap (not_yet asked) l.is ∙ not_yet_last asked l.before n (l.key, l.value)))
    | inr e ↦ same_below n (omega (arith, low)) ns (numbered_before m c blocks n ns e below)
  ]

  module _ (key : K) (value : V) (block : value_at m (blocks.pair q) ≡ Some (node.Pair key value)) where
    abbrev TakesIt : List (ℕ × (K × V)) → Type 0
    TakesIt ns = IsPermutation (not_yet asked ns) ((q, (key, value)) ∷ not_yet (q ∷ asked) ns)

    itself : (n : ℕ) → n ≡ q → (ns : List (ℕ × (K × V))) → NumberedLast m c blocks n ns → TakesIt ns
    itself n is ns l =
        taken_last (q, (key, value)) (not_yet asked l.before) [] (not_yet asked ns) (not_yet (q ∷ asked) ns) (n, (l.key, l.value)) same_pair
        (ap (not_yet asked) l.is ∙ not_yet_last asked l.before n (l.key, l.value) ∙ ap (last_of (not_yet asked l.before) n l.key l.value) (ap (is_new asked) is ∙ new_then))
        (ap (not_yet (q ∷ asked)) l.is ∙ not_yet_last (q ∷ asked) l.before n (l.key, l.value)
        ∙ ap (last_of (not_yet (q ∷ asked) l.before) n l.key l.value) (ap (is_new (q ∷ asked)) is ∙ old_now) ∙ append-nil (not_yet (q ∷ asked) l.before)
        ∙ same_below n (omega (arith, is)) l.before l.below)
      where
        found : Some (node.Pair l.key l.value) ≡ Some (node.Pair key value)
        found = sym l.block ∙ ap (λ (y : ℕ). value_at m (blocks.pair y)) is ∙ block

        same_pair : ◌≡◌ {A = ℕ × (K × V)} (n, (l.key, l.value)) (q, (key, value))
        same_pair =
            let k : l.key ≡ key = cc found in
            let v : l.value ≡ value = cc found in
            ap {B = ℕ × (K × V)} (λ (y : ℕ). (y, (l.key, l.value))) is ∙ ap {B = ℕ × (K × V)} (λ (y : K). (q, (y, l.value))) k ∙ ap {B = ℕ × (K × V)} (λ (y : V). (q, (key, y))) v

    another : (n : ℕ) → n ≢ q → (ns : List (ℕ × (K × V))) → (l : NumberedLast m c blocks n ns) → TakesIt l.before → TakesIt ns
    another n other ns l before =
        taken_before (q, (key, value)) (not_yet asked l.before) (not_yet (q ∷ asked) l.before) (not_yet asked ns) (not_yet (q ∷ asked) ns) (last_of [] n l.key l.value (is_new asked n))
        (ap (not_yet asked) l.is ∙ not_yet_last asked l.before n (l.key, l.value))
        (ap (not_yet (q ∷ asked)) l.is ∙ not_yet_last (q ∷ asked) l.before n (l.key, l.value) ∙ ap (last_of (not_yet (q ∷ asked) l.before) n l.key l.value) (other_same n other)) before

    pub one_taken : (n : ℕ) → q < n → (ns : List (ℕ × (K × V))) → NumberedBelow m c blocks n ns → TakesIt ns
    one_taken zero low ns is = absurd (omega (arith, low))
    one_taken (suc n) low ns below = elim (decided (c.current n)) as (λ _. TakesIt ns) [
      | inl e ↦
          (let l = numbered_last m c blocks n ns e below in
          elim (cases_eq n q) as (λ _. TakesIt ns) [
            | inl is ↦ itself n is ns l
            | inr other ↦ another n other ns l (one_taken n (omega (arith, low, other)) l.before l.below)
          ])
      | inr e ↦ elim (cases_eq n q) as (λ _. TakesIt ns) [
        | inl is ↦ absurd (let t : true ≡ false = sym here ∙ sym (ap c.current is) ∙ e in cc t)
        | inr other ↦ one_taken n (omega (arith, low, other)) ns (numbered_before m c blocks n ns e below)
      ]
    ]

-- told about each, it is left with none
none_left : {K V : Type 0} (m : Mem (Node K V)) (c : Chart K) (blocks : Blocks) (asked : List ℕ) (n : ℕ) → ((i : ℕ) → i < n → c.current i ≡ true → is_new asked i ≡ false)
    → (ns : List (ℕ × (K × V))) → NumberedBelow m c blocks n ns → not_yet asked ns ≡ []
none_left m c blocks asked zero all ns is = ap (not_yet asked) is
none_left {K} {V} m c blocks asked (suc n) all ns below = elim (decided (c.current n)) as (λ _. not_yet asked ns ≡ []) [
  | inl e ↦
      (let l = numbered_last m c blocks n ns e below in
      ap (not_yet asked) l.is ∙ not_yet_last asked l.before n (l.key, l.value)
      ∙ ap (λ (b : Bool). not_yet asked l.before ++ cond b ((n, (l.key, l.value)) ∷ []) []) (all n (omega arith) e) ∙ append-nil (not_yet asked l.before)
      ∙ none_left m c blocks asked n (λ i low. all i (omega (arith, low))) l.before l.below)
  | inr e ↦ none_left m c blocks asked n (λ i low. all i (omega (arith, low))) ns (numbered_before m c blocks n ns e below)
]

-- from what the map held
module _ {K V S : Type 0} (same : K → K → Bool) (hashes : S → K → ℕ) (b : Bor S) (setting : Setting) (m0 : Mem (Node K V)) (xs : List (K × V)) (h : Holds same (hashes b.now) setting m0 xs) where
  abbrev hash : K → ℕ
  hash = hashes b.now

  abbrev slot_of : ℕ → ℕ
  slot_of i = setting.slot

  abbrev pub UnderIt : Said → OverPairs S → Mem (Node K V) → Type 0
  UnderIt = Under same hashes b setting m0 xs h Retains retains_not_walks

  abbrev pub AsksIt : Said → OverPairs S → Mem (Node K V) → ℕ → Type 0
  AsksIt = UnderAsking same hashes b setting m0 xs h Retains retains_not_walks

  abbrev pub DoneIt : Said → CallOverAll → Mem (Node K V) → Type 0
  DoneIt = IsDone same hashes b setting m0 xs h Retains retains_not_walks

  -- the pairs of the list, each behind its number
  pub numbered : (ns : List (ℕ × (K × V))) × AreNumbered h.world.memory h.chart h.blocks ns × (pairs_of ns ≡ xs)
  numbered = numbers_are h.world.memory h.chart h.blocks xs h.are

  -- it is told whether to keep this pair
  abbrev pub said_of : Said → ℕ → Bool → Said
  said_of said n keeps = record { asked = n ∷ said.asked; done = cond keeps (n ∷ said.done) said.done }

  -- The pair that it asks about is one of the list, and is in the block of the word. It was not told about it before.
  pub record Question (said : Said) (m : Mem (Node K V)) (word : ℕ) : Type 0 where
    pub number : ℕ
    pub key : K
    pub value : V
    pub block : value_at m (block_in word) ≡ Some (node.Pair key value)
    pub listed : Contains numbered.0 (number, (key, value))
    pub had : value_at h.world.memory (h.blocks.pair number) ≡ Some (node.Pair key value)
    pub new : times number said.asked ≡ 0
    pub fresh : times number said.done ≡ 0
    pub taken : IsPermutation (not_yet said.asked numbered.0) ((number, (key, value)) ∷ not_yet (number ∷ said.asked) numbered.0)
    pub fewer : suc (unasked (number ∷ said.asked) numbered.0) ≡ unasked said.asked numbered.0

  module _ (said : Said) (x : OverPairs S) (m : Mem (Node K V)) (word : ℕ) (u : AsksIt said x m word) where
    is_told : IsReplied {Q = K} V same hash same setting slot_of u.asking.course.w u.asking.course.c u.asking.course.blocks u.asking.course.sights u.o
    is_told =
        let c = u.asking.course in sweeps_told_alone same hash same setting slot_of h.lawful c.w c.c c.blocks c.sights u.o c.alone

    pub about : (n : ℕ) × (k : K) × (v : V) × NamesNew hash u.asking.course.w.memory u.asking.course.c u.asking.course.blocks u.o.done word n k v
    about = is_told.asks_about word u.asking.asks

    pub question : Question said m word
    question =
        let c = u.asking.course in let names = about.3.0 in
        let once = goes_over_one same hashes b setting m0 xs h Retains retains_not_walks u.o.sweep.purpose in
        let listed = shown (is_incremental setting.mode) h.world.memory c.w.memory h.chart c.c h.blocks c.blocks said.asked u.o c.runs numbered.0 numbered.1 about.0 about.1 about.2 names.stored names.is_there names.value in
        let new = asks_once (is_incremental setting.mode) h.world.memory c.w.memory h.chart c.c h.blocks c.blocks said.asked u.o c.runs once c.purpose_is word u.asking.asks about.0 names.is_there about.3.1 in
        let low : about.0 < h.chart.stored = subst (λ s. about.0 < s) c.runs.stored names.stored in
        let one = one_taken h.world.memory h.chart h.blocks about.0 said.asked new (c.runs.keeps.were about.0 low names.is_there) about.1 about.2 listed.1 h.chart.stored low numbered.0 numbered.1 in
        record {
          number = about.0;
          key = about.1;
          value = about.2;
          block = subst (λ (y : Mem (Node K V)). value_at y (block_in word) ≡ Some (node.Pair about.1 about.2)) c.memory (ap (value_at c.w.memory) names.block ∙ names.value);
          listed = listed.0;
          had = listed.1;
          new = new;
          fresh = ap (times about.0) (sym c.done_is) ∙ about.3.1;
          taken = one;
          fewer = length_permutation (not_yet said.asked numbered.0) ((about.0, (about.1, about.2)) ∷ not_yet (about.0 ∷ said.asked) numbered.0) one;
        }

    -- told, it is under way again
    pub told : (keeps : Bool) → UnderIt (said_of said question.number keeps) (record x { sweep = after_reply x.sweep keeps }) m
    unfolding question
    told keeps =
        let c = u.asking.course in let replied = is_told.replied word about.0 about.1 about.2 u.asking.asks about.3.0 keeps in
        record {
          o = with_verdict u.o about.0 keeps;
          is = ap (λ (y : OverPairs S). record y { sweep = after_reply y.sweep keeps }) u.is;
          course = record {
            w = c.w;
            c = c.c;
            blocks = c.blocks;
            sights = c.sights;
            alone = replied.0;
            memory = c.memory;
            runs = replied.1 h.world.memory h.chart h.blocks said.asked c.runs;
            done_is = ap (λ (l : List ℕ). cond keeps (about.0 ∷ l) l) c.done_is;
            counts = c.counts ∙ ap (λ k. pairs_in c.c + k) (sym ((telling_counts_nothing u.o.sweep).1 keeps));
            purpose_is = (telling_keeps_the_purpose u.o.sweep).1 keeps ∙ c.purpose_is;
            ends = (told_as_on (IsForTheLast c.c) (IsTheLast c.c) u.o.sweep c.ends).1 keeps;
          };
        }

  -- Done, it was told about each pair, and has left those that it was told to keep.
  pub retained : (said : Said) (o : CallOverAll) (m : Mem (Node K V)) → DoneIt said o m
      → (not_yet said.asked numbered.0 ≡ []) × Holds same hash setting m (pairs_of (those (is_done said.done) numbered.0))
  retained said o m d =
      let e = d.ended in
      let leaves = sweeps_leave (is_incremental setting.mode) h.world.memory e.w.memory h.chart e.c h.blocks e.blocks said.asked o e.runs d.came d.over numbered.0 numbered.1 in
      let stored = e.runs.stored in
      let once = goes_over_one same hashes b setting m0 xs h Retains retains_not_walks o.sweep.purpose in (
        none_left h.world.memory h.chart h.blocks said.asked h.chart.stored
            (λ i low here. ap (λ t. not (nat_lt 0 t)) (leaves.2 once e.purpose_is i (omega (arith, low, stored)) ∙ ap {B = ℕ} (λ (x : Bool). cond x 1 0) here)) numbered.0 numbered.1,
        holds_at same hashes b setting m0 xs h Retains retains_not_walks said o m e (pairs_of (those (is_done said.done) numbered.0))
            (numbers_go e.w.memory e.c e.blocks (those (is_done said.done) numbered.0)
            (subst (λ (l : List ℕ). AreNumbered e.w.memory e.c e.blocks (those (is_done l) numbered.0)) e.done_is
            (subst (λ (p : Purpose). AreNumbered e.w.memory e.c e.blocks (left_by p o.done numbered.0)) e.purpose_is leaves.0))),
      )
