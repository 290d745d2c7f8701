-- What a step of a call leaves of blocks for pairs that are not stored, by what its operation does and by what its machine names.
use Rattle.std.specs.Prelude.{◌≡◌, ◌≢◌, ℕ, ◌+◌, Bool, true, false, List, [], ◌∷◌, Some, None, ◌⊎◌}
use Rattle.std.proofs.Common.{refl, ap, sym, subst, ◌∙◌, inl, inr}
use Rattle.std.proofs.lemmas.Bool.{cases_eq}
use Rattle.run_debts.specs.Given.SeizeWordsWord.{block_in}
use Rattle.run_debts.specs.Given.RunsDeclared.effect.Effect.{Effect}
use Rattle.run_debts.specs.Given.RunsDeclared.effect.Effect.TheVariants as effect
use Rattle.run_debts.specs.Given.RunsDeclared.effect.Growth.TheVariants.{ABlock}
use Rattle.run_debts.specs.Given.SchedulesGrowing.{has_value_for}
use Rattle.run_debts.specs.Given.SchedulesLists.{put}
use Rattle.run_debts.specs.Given.SchedulesMoment.{UnderWay as CallThere, Moment}
use Rattle.run_debts.specs.Given.SchedulesViews.{call_of}
use Rattle.run_debts.specs.Given.EffectsDeclared.changed.Changed.{Changed}
use Rattle.run_debts.specs.Given.EffectsDeclared.changed.Changed.TheVariants as changed
use Rattle.run_debts.specs.Given.EffectsDeclared.changed.Kind.TheVariants as kind
use Rattle.run_debts.specs.Given.EffectsEffects.{taken_by, effects_of, known_after}
use Rattle.run_debts.specs.Given.EffectsKnown.{Known}
use Rattle.run_debts.specs.Given.EffectsDeclared.acting.Acting.{Acting}
use Rattle.run_debts.specs.Given.EffectsDeclared.acting.Acting.TheVariants as acts
use Rattle.run_debts.specs.Given.EffectsDeclared.role.Role.{Role}
use Rattle.run_debts.specs.Given.EffectsDeclared.role.Role.TheVariants as role
use Rattle.run_debts.proofs.Given.FollowsAlike.{put_here, put_elsewhere}
use Rattle.run_blocks.specs.Owes.Beside.{NoneOfBlock}
use Rattle.run_blocks.specs.Owes.Keeping.{FindBlocks}
use Rattle.run_blocks.specs.Owes.Made.{IsItsBlock, HasBlock, NamesBlock}
use Rattle.run_blocks.proofs.Owes.Effects.{block_by, all_kept, none_stored, none_find, made_find, given_find, storing_find}
use Rattle.run_blocks.proofs.Owes.Fields.{all_by}
use Rattle.run_blocks.proofs.Owes.Roles.{own_of, own_is, DoesSo, Leaves, Makes, GivesUp, Stores}
use Rattle.run_blocks.proofs.Owes.Words.{WordGoes, KeepsWord, NewWord, LosesWord}
use Rattle.run_debts.proofs.Given.General.{same_some as one_caller}

-- a block is not whose it is not
not_own : (r : Role) (i : ℕ) → own_of r ≡ None → r ≡ role.OwnPair i → ⊥
not_own r i none is = absurd (let some : None ≡ Some i = sym none ∙ ap own_of is in cc some)

module _ {K V : Type 0} (own : List ℕ) (m : Moment K V) (caller map : ℕ) (known : Known) (told : Changed) where
  abbrev its : Acting
  its = acts.Call caller map

  abbrev known2 : Known
  known2 = known_after its told known

  abbrev effects : List Effect
  effects = effects_of its known told

  -- Others have what they had. This caller has such a block just if it is so after the effects, and none but that which the word names. And effects find it so.
  pub record LeavesMade (word2 : ℕ) : Type 0 where
    pub back : (j b : ℕ) → j ≢ caller → IsItsBlock known2 j b → IsItsBlock known j b
    pub theirs : (j b : ℕ) → j ≢ caller → IsItsBlock known j b → IsItsBlock known2 j b
    pub has : (h : Bool) → HasBlock known caller h → HasBlock known2 caller (all_by block_by effects h)
    pub named : NamesBlock known2 caller word2
    pub finds : (c : CallThere K V) → call_of own m ≡ Some c → HasBlock known caller c.has_block → FindBlocks own map effects m

  has_none : (h : Bool) → HasBlock known caller h → ((b : ℕ) → IsItsBlock known caller b → ⊥) → h ≡ false
  has_none true has none = absurd (none has.0 has.1)
  has_none false has none = refl

  has_some : (h : Bool) → HasBlock known caller h → (b : ℕ) → IsItsBlock known caller b → h ≡ true
  has_some true has b is = refl
  has_some false has b is = absurd (has b is)

  has_as : (h q : Bool) → h ≡ q → HasBlock known2 caller q → HasBlock known2 caller h
  has_as h q e has = subst (HasBlock known2 caller) (sym e) has

  -- who makes a block for a pair has a value for it
  abbrev pub MakersHaveValues : Type 0
  MakersHaveValues = (b : ℕ) → told ≡ changed.Made kind.Pair b → (c : CallThere K V) → call_of own m ≡ Some c → has_value_for c.call c ≡ true

  module _ (word word2 : ℕ) (goes : WordGoes told word word2) (names : NamesBlock known caller word) where
    -- each block is whose it was
    module _ (same : (x : ℕ) → own_of (known2.roles x) ≡ own_of (known.roles x)) (quiet : NoneOfBlock effects) where
      before : (j b : ℕ) → IsItsBlock known2 j b → IsItsBlock known j b
      before j b is = own_is (known.roles b) j (sym (same b) ∙ ap own_of is)

      later : (j b : ℕ) → IsItsBlock known j b → IsItsBlock known2 j b
      later j b is = own_is (known2.roles b) j (same b ∙ ap own_of is)

      has_same : (h : Bool) → HasBlock known caller h → HasBlock known2 caller h
      has_same true has = (has.0, later caller has.0 has.1)
      has_same false none = λ b is. none b (before caller b is)

      named_same : (b : ℕ) → IsItsBlock known2 caller b → (word ≢ 0) × (b ≡ block_in word) → WordGoes told word word2 → (word2 ≢ 0) × (b ≡ block_in word2)
      named_same b is n (KeepsWord e none) = (λ z. n.0 (sym e ∙ z), n.1 ∙ ap block_in (sym e))
      named_same b is n (NewWord k x made was_none some its_name) = absurd (n.0 was_none)
      named_same b is n (LosesWord took) =
          absurd (let gone : known2.roles (block_in word) ≡ role.Free =
          ap (λ (t : Changed). (known_after its t known).roles (block_in word)) took ∙ put_here (block_in word) role.Free known.roles (block_in word) refl in
          let r : role.Free ≡ role.OwnPair caller = sym gone ∙ ap known2.roles (sym n.1) ∙ is in cc r)

      pub left_so : LeavesMade word2
      left_so = record {
        back = λ j b ne is. before j b is;
        theirs = λ j b ne is. later j b is;
        has = λ h has. has_as (all_by block_by effects h) h (all_kept effects quiet h) (has_same h has);
        named = λ b is. named_same b is (names b (before caller b is)) goes;
        finds = λ c c_is has. none_find own map effects m c c_is quiet;
      }

    -- a block for a pair was made, by a caller that had none
    module _ (valued : MakersHaveValues) (b : ℕ) (made : told ≡ changed.Made kind.Pair b) (free : known.roles b ≡ role.Free) where
      roles_are : known2.roles ≡ put b (role.OwnPair caller) known.roles
      roles_are = ap (λ (t : Changed). (known_after its t known).roles) made

      effects_are : effects ≡ effect.Asked ABlock ∷ effect.PairMade ∷ []
      effects_are = ap (effects_of its known) made

      here : known2.roles b ≡ role.OwnPair caller
      here = ap (λ (f : ℕ → Role). f b) roles_are ∙ put_here b (role.OwnPair caller) known.roles b refl

      elsewhere : (x : ℕ) → x ≢ b → known2.roles x ≡ known.roles x
      elsewhere x ne = ap (λ (f : ℕ → Role). f x) roles_are ∙ put_elsewhere b (role.OwnPair caller) known.roles x ne

      had_none : (x : ℕ) → IsItsBlock known caller x → ⊥
      had_none x is = by goes
        where
          by : WordGoes told word word2 → ⊥
          by (KeepsWord e none) = none b made
          by (NewWord k y made_so was_none some its_name) = (names x is).0 was_none
          by (LosesWord took) = cc (made, took)

      was_free : (j : ℕ) → IsItsBlock known j b → ⊥
      was_free j is = absurd (let r : role.Free ≡ role.OwnPair j = sym free ∙ is in cc r)

      made_back : (j x : ℕ) → j ≢ caller → IsItsBlock known2 j x → IsItsBlock known j x
      made_back j x ne is = elim (cases_eq x b) as (λ _. IsItsBlock known j x) [
        | inl e ↦ absurd (let r : role.OwnPair caller ≡ role.OwnPair j = sym here ∙ ap known2.roles (sym e) ∙ is in ne (sym (one_caller caller j (ap own_of r))))
        | inr other ↦ sym (elsewhere x other) ∙ is
      ]

      made_theirs : (j x : ℕ) → IsItsBlock known j x → IsItsBlock known2 j x
      made_theirs j x is = elim (cases_eq x b) as (λ _. IsItsBlock known2 j x) [
        | inl e ↦ absurd (was_free j (ap known.roles (sym e) ∙ is))
        | inr other ↦ elsewhere x other ∙ is
      ]

      named_made : (x : ℕ) → IsItsBlock known2 caller x → (word2 ≢ 0) × (x ≡ block_in word2)
      named_made x is = elim (cases_eq x b) as (λ _. (word2 ≢ 0) × (x ≡ block_in word2)) [
        | inl e ↦ by e goes
        | inr other ↦ absurd (had_none x (sym (elsewhere x other) ∙ is))
      ]
        where
          by : x ≡ b → WordGoes told word word2 → (word2 ≢ 0) × (x ≡ block_in word2)
          by e (KeepsWord same none) = absurd (none b made)
          by e (NewWord k y made_so was_none some its_name) = (some, e ∙ (let one : b ≡ y = cc (made, made_so) in one) ∙ sym its_name)
          by e (LosesWord took) = absurd (cc (made, took))

      pub left_made : LeavesMade word2
      left_made = record {
        back = made_back;
        theirs = λ j x ne is. made_theirs j x is;
        has = λ h has. has_as (all_by block_by effects h) true (ap (λ (fs : List Effect). all_by block_by fs h) effects_are) (b, here);
        named = named_made;
        finds = λ c c_is has. subst (λ (fs : List Effect). FindBlocks own map fs m) (sym effects_are) (made_find own map m c c_is (has_none c.has_block has had_none) (valued b made c c_is));
      }

    -- its block is that of a pair that is stored, or is gone
    module _ (b : ℕ) (mine : IsItsBlock known caller b) (gone : own_of (known2.roles b) ≡ None) (elsewhere : (x : ℕ) → x ≢ b → known2.roles x ≡ known.roles x)
        (ends : (h : Bool) → all_by block_by effects h ≡ false) (finds_so : (c : CallThere K V) → call_of own m ≡ Some c → c.has_block ≡ true → FindBlocks own map effects m) where
      gone_back : (j x : ℕ) → IsItsBlock known2 j x → IsItsBlock known j x
      gone_back j x is = elim (cases_eq x b) as (λ _. IsItsBlock known j x) [
        | inl e ↦ absurd (not_own (known2.roles b) j gone (ap known2.roles (sym e) ∙ is))
        | inr other ↦ sym (elsewhere x other) ∙ is
      ]

      gone_theirs : (j x : ℕ) → j ≢ caller → IsItsBlock known j x → IsItsBlock known2 j x
      gone_theirs j x ne is = elim (cases_eq x b) as (λ _. IsItsBlock known2 j x) [
        | inl e ↦ absurd (let r : role.OwnPair caller ≡ role.OwnPair j = sym mine ∙ ap known.roles (sym e) ∙ is in ne (sym (one_caller caller j (ap own_of r))))
        | inr other ↦ elsewhere x other ∙ is
      ]

      has_gone : (x : ℕ) → IsItsBlock known2 caller x → ⊥
      has_gone x is = elim (cases_eq x b) as (λ _. ⊥) [
        | inl e ↦ not_own (known2.roles b) caller gone (ap known2.roles (sym e) ∙ is)
        | inr other ↦ other ((names x (gone_back caller x is)).1 ∙ sym (names b mine).1)
      ]

      pub left_gone : LeavesMade word2
      left_gone = record {
        back = λ j x ne is. gone_back j x is;
        theirs = gone_theirs;
        has = λ h has. has_as (all_by block_by effects h) false (ends h) has_gone;
        named = λ x is. absurd (has_gone x is);
        finds = λ c c_is has. finds_so c c_is (has_some c.has_block has b mine);
      }

    module _ (valued : MakersHaveValues) (only : (j b : ℕ) → known.roles b ≡ role.OwnPair j → (told ≡ changed.Took b) ⊎ (known2.roles b ≡ role.Pair (known.stored + 1)) → j ≡ caller) where
      its_own : (j b : ℕ) → known.roles b ≡ role.OwnPair j → j ≡ caller → IsItsBlock known caller b
      its_own j b is e = is ∙ ap role.OwnPair e

      pub leaves_made : DoesSo its known told → LeavesMade word2
      leaves_made (Leaves same quiet) = left_so same quiet
      leaves_made (Makes b made free) = left_made valued b made free
      leaves_made (GivesUp b j took was) =
          left_gone b (its_own j b was (only j b was (inl took)))
          (ap (λ (t : Changed). own_of ((known_after its t known).roles b)) took ∙ ap own_of (put_here b role.Free known.roles b refl))
          (λ x ne. ap (λ (t : Changed). (known_after its t known).roles x) took ∙ put_elsewhere b role.Free known.roles x ne)
          (λ h. ap (λ (fs : List Effect). all_by block_by fs h) effects_are)
          (λ c c_is has. subst (λ (fs : List Effect). FindBlocks own map fs m) (sym effects_are) (given_find own map m c c_is has))
        where
          effects_are : effects ≡ effect.PairGivenUp ∷ []
          effects_are = ap (effects_of its known) took ∙ ap (taken_by its) was
      leaves_made (Stores b j was is others storing) =
          left_gone b (its_own j b was (only j b was (inr is))) (ap own_of is) others (none_stored effects storing) (λ c c_is has. storing_find own map effects storing m c c_is has)
