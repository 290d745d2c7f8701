-- What a step looks at, with pairs that it tells, which are there and held: by that it comes to the same, and these pairs are shown.
use Rattle.std.specs.Prelude.{Some, if◌then◌else◌}
use Rattle.std.proofs.Common.{◌≡◌, ℕ, Bool, List, ◌∷◌, ◌⊎◌, inl, inr, refl, sym, ap}
use Rattle.std.proofs.lemmas.Bool.{eq-eqb}
use Rattle.seize_words.specs.OneMemory.Mem.{Mem, value_at}
use Rattle.seize_words.specs.OneMemory.Op.{Out}
use Rattle.seize_words.specs.OneMemory.Plan.{Plan}
use Rattle.seize_words.specs.OneMemory.Word.{block_in}
use Rattle.map_tables.specs.declared.node.Node.{Node}
use Rattle.map_tables.specs.declared.node.Node.TheVariants.{Pair}
use Rattle.papaya_raw.specs.declared.machines.answer.KeyAnswer.{KeyAnswer}
use Rattle.papaya_raw.specs.declared.machines.answer.KeyAnswer.TheVariants as answers
use Rattle.papaya_raw.specs.declared.machines.progress.Answer.TheVariants as said
use Rattle.papaya_raw.specs.declared.machines.progress.Progress.{Progress}
use Rattle.papaya_raw.specs.declared.machines.progress.Progress.TheVariants as progress
use Rattle.seize_views.specs.Views.Told.{FollowsBy}
use Rattle.threads_kinds.specs.CallKinds.Kinds.{PairIsVisible}
use Rattle.threads_kinds.specs.CallKinds.Shows.{AnswerNames, AnswersWith}
use Rattle.threads_rule.specs.Views.Looks.{shown_in, MayFollow, TurnsTo}
use Rattle.threads_rule.proofs.Views.Looked.{AllKnown, AllLooked, IsSo, all_known, follows_more, may_more, shown_on, so_with, turns_more}

-- a pair is there, and held
abbrev pub IsThere : {K V : Type 0} → (ℕ → Type 0) → Mem (Node K V) → ℕ → Type 0
IsThere {K} {V} held m word = (key : K) × (value : V) × (value_at m (block_in word) ≡ Some (Pair key value)) × held (block_in word)

module _ {K V R : Type 0} (held : ℕ → Type 0) (m : Mem (Node K V)) (plan : Plan (Node K V) R) (m2 : Mem (Node K V)) (end : R) (looks : List (ℕ × Node K V)) where
  -- what was looked at, with the pairs of these words
  pub record Known (words : ℕ → Type 0) : Type 0 where
    pub more : List (ℕ × Node K V)
    pub so : IsSo (value_at m2) more
    pub seen : AllKnown held m plan m2 end more
    pub shows : (word : ℕ) → words word → PairIsVisible (shown_in more) word
    pub follows : (out : Out (Node K V)) → FollowsBy (shown_in looks) plan out end → FollowsBy (shown_in more) plan out end
    pub may_follow : (out : Out (Node K V)) → MayFollow (shown_in looks) plan out → MayFollow (shown_in more) plan out
    pub turns : TurnsTo (shown_in looks) plan end → TurnsTo (shown_in more) plan end

  pub none_more : IsSo (value_at m2) looks → AllLooked m plan m2 end looks → Known (λ word. ⊥)
  none_more so_looks seen = record {
    more = looks;
    so = so_looks;
    seen = all_known held m plan m2 end looks seen;
    shows = λ word none. absurd none;
    follows = λ out f. f;
    may_follow = λ out f. f;
    turns = λ f. f;
  }

  -- with one pair more
  pub one_more : (words : ℕ → Type 0) (word : ℕ) → IsThere held m2 word → Known words → Known (λ other. (word ≡ other) ⊎ words other)
  one_more words word there k =
      let pair : Node K V = Pair there.0 there.1 in record {
        more = (block_in word, pair) ∷ k.more;
        so = so_with (value_at m2) k.more (block_in word) pair there.2 k.so;
        seen = (inr there.3, there.2, k.seen);
        shows = λ other is. elim is as (λ _. PairIsVisible (shown_in ((block_in word, pair) ∷ k.more)) other) [
          | inl one ↦ (there.0, there.1, ap (λ (q : Bool). if q then Some pair else shown_in k.more (block_in other)) (eq-eqb (block_in other) (block_in word) (ap block_in (sym one))))
          | inr among ↦
              let found = k.shows other among in
              (found.0, found.1, shown_on (value_at m2) k.more (block_in word) pair there.2 k.so (block_in other) (Pair found.0 found.1) found.2)
        ];
        follows = λ out f. follows_more m2 plan out end k.more (block_in word) pair there.2 k.so (k.follows out f);
        may_follow = λ out f. may_more m2 plan out k.more (block_in word) pair there.2 k.so (k.may_follow out f);
        turns = λ f. turns_more m2 plan end k.more (block_in word) pair there.2 k.so (k.turns f);
      }

  pub of_these : (words others : ℕ → Type 0) → ((word : ℕ) → others word → words word) → Known words → Known others
  of_these words others are k = record {
    more = k.more;
    so = k.so;
    seen = k.seen;
    shows = λ word is. k.shows word (are word is);
    follows = k.follows;
    may_follow = k.may_follow;
    turns = k.turns;
  }

  without : (words : ℕ → Type 0) → Known words → Known (λ word. ⊥ ⊎ words word)
  without words k = of_these words (λ word. ⊥ ⊎ words word) (λ word is. elim is as (λ _. words word) [
    | inl none ↦ absurd none
    | inr among ↦ among
  ]) k

  -- one of two words, or of these
  first_of : (words : ℕ → Type 0) (old new word : ℕ) → ((old ≡ word) ⊎ (new ≡ word)) ⊎ words word → (old ≡ word) ⊎ ((new ≡ word) ⊎ words word)
  first_of words old new word (inl (inl one)) = inl one
  first_of words old new word (inl (inr other)) = inr (inl other)
  first_of words old new word (inr among) = inr (inr among)

  -- with those of an answer
  with_answer : (words : ℕ → Type 0) (answer : KeyAnswer) → ((word : ℕ) → AnswerNames answer word → IsThere held m2 word) → Known words → Known (λ word. AnswerNames answer word ⊎ words word)
  with_answer words answers.Absent there k = without words k
  with_answer words (answers.Found found) there k = one_more words found (there found refl) k
  with_answer words (answers.Stored new) there k = one_more words new (there new refl) k
  with_answer words (answers.Removed old) there k = one_more words old (there old refl) k
  with_answer words (answers.Replaced old new) there k =
      of_these (λ word. (old ≡ word) ⊎ ((new ≡ word) ⊎ words word)) (λ word. ((old ≡ word) ⊎ (new ≡ word)) ⊎ words word) (first_of words old new)
      (one_more (λ word. (new ≡ word) ⊎ words word) old (there old (inl refl)) (one_more words new (there new (inr refl)) k))

  pub with_told : (words : ℕ → Type 0) (told : Progress (Node K V)) → ((word : ℕ) → AnswersWith told word → IsThere held m2 word) → Known words → Known (λ word. AnswersWith told word ⊎ words word)
  with_told words (progress.Done (said.Key answer)) there k = with_answer words answer there k
  with_told words (progress.Done said.Reserved) there k = without words k
  with_told words (progress.Done said.Swept) there k = without words k
  with_told words (progress.Done (said.Count count)) there k = without words k
  with_told words progress.Goes there k = without words k
  with_told words progress.Waits there k = without words k
  with_told words (progress.Gave value) there k = without words k
  with_told words (progress.Unstored value) there k = without words k
  with_told words (progress.Asks pair) there k = without words k
  with_told words progress.Ready there k = without words k
  with_told words (progress.Pair pair) there k = without words k
  with_told words (progress.Refused fault) there k = without words k
