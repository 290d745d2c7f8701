-- What closures abort with later makes no difference to what was played before; and a list that is played goes on by one more.
use Rattle.std.specs.Prelude.{◌<◌, ◌+◌, ◌++◌, Option, Some, None, length, option_map}
use Rattle.std.proofs.Common.{◌≡◌, ℕ, Bool, List, [], ◌∷◌, refl, sym, ap, subst, arith, ◌∙◌}
use Rattle.std.proofs.lemmas.List.{length-append}
use Rattle.seize_acts.specs.Acts.Answers.{then_on}
use Rattle.many_acts.specs.Acts.Acts.{Answer, BeginsCall, StepsCall, TellsCall, AsksCall, StopsCall, BeginsMaking, StepsMaking, BeginsEnding, StepsEnding, BeginsRow, StepsRow}
use Rattle.many_acts.specs.Acts.Doings.{Doing, Does, BeginsReclaiming, BeginsClearing, StepsReclaiming, Chooses}
use Rattle.play_lists.specs.Played.Play.{State, call_replied, play, play_all}
use Rattle.play_lists.proofs.Played.PlayedAs.{played_as, reclaimed_as}
use Rattle.play_lists.specs.Agrees.Fresh.{IsNew, MakesNew}
use Rattle.run_finds.proofs.Given.General.{same_some}

module _ {K V S : Type 0} (same : K → K → Bool) (by_hasher : S → K → ℕ) (batch_size roots : ℕ) where
  -- the next state, by what a closure aborts with at this act alone
  one_play : (aborts other : ℕ → V) (doing : Doing K V S) (x : State K V S) → aborts (length x.told) ≡ other (length x.told)
      → play same by_hasher batch_size roots aborts doing x ≡ play same by_hasher batch_size roots other doing x
  one_play aborts other (Does (TellsCall i m reply)) x e = ap (λ (v : V). option_map (call_replied i m (λ n. v) reply x) (x.now.calls m i)) e
  one_play aborts other (Does (BeginsCall i m wanted)) x e = refl
  one_play aborts other (Does (StepsCall i m g)) x e = refl
  one_play aborts other (Does (AsksCall i m)) x e = refl
  one_play aborts other (Does (StopsCall i m)) x e = refl
  one_play aborts other (Does (BeginsMaking i map hasher given places)) x e = refl
  one_play aborts other (Does (StepsMaking i g)) x e = refl
  one_play aborts other (Does (BeginsEnding i m)) x e = refl
  one_play aborts other (Does (StepsEnding i g)) x e = refl
  one_play aborts other (Does (BeginsRow i request)) x e = refl
  one_play aborts other (Does (StepsRow i g)) x e = refl
  one_play aborts other (BeginsReclaiming i) x e = refl
  one_play aborts other (BeginsClearing i) x e = refl
  one_play aborts other (StepsReclaiming g) x e = refl
  one_play aborts other (Chooses choice) x e = refl

  module _ (aborts : ℕ → V) (x y : State K V S) where
    more : (z : State K V S) (answer : Answer K V) → y ≡ z → z.told ≡ x.told ++ answer ∷ [] → length y.told ≡ length x.told + 1
    more z answer is told = ap (λ (s : State K V S). length s.told) is ∙ ap length told ∙ length-append x.told (answer ∷ [])

    -- one more was told then
    told_more : (doing : Doing K V S) → play same by_hasher batch_size roots aborts doing x ≡ Some y → length y.told ≡ length x.told + 1
    told_more (Does (BeginsCall i m wanted)) e = let p = played_as same by_hasher batch_size roots aborts x y (BeginsCall i m wanted) e in more _ _ p.2 refl
    told_more (Does (StepsCall i m g)) e = let p = played_as same by_hasher batch_size roots aborts x y (StepsCall i m g) e in more _ _ p.2.4 refl
    told_more (Does (TellsCall i m reply)) e = let p = played_as same by_hasher batch_size roots aborts x y (TellsCall i m reply) e in more _ _ p.2 refl
    told_more (Does (AsksCall i m)) e = let p = played_as same by_hasher batch_size roots aborts x y (AsksCall i m) e in more _ _ p.2 refl
    told_more (Does (StopsCall i m)) e = let p = played_as same by_hasher batch_size roots aborts x y (StopsCall i m) e in more _ _ p.2 refl
    told_more (Does (BeginsMaking i map hasher given places)) e = more _ _ (played_as same by_hasher batch_size roots aborts x y (BeginsMaking i map hasher given places) e) refl
    told_more (Does (StepsMaking i g)) e = let p = played_as same by_hasher batch_size roots aborts x y (StepsMaking i g) e in more _ _ p.4 refl
    told_more (Does (BeginsEnding i m)) e = let p = played_as same by_hasher batch_size roots aborts x y (BeginsEnding i m) e in more _ _ p.2 refl
    told_more (Does (StepsEnding i g)) e = let p = played_as same by_hasher batch_size roots aborts x y (StepsEnding i g) e in more _ _ p.4 refl
    told_more (Does (BeginsRow i request)) e = let p = played_as same by_hasher batch_size roots aborts x y (BeginsRow i request) e in more _ _ p.2 refl
    told_more (Does (StepsRow i g)) e = let p = played_as same by_hasher batch_size roots aborts x y (StepsRow i g) e in more _ _ p.4 refl
    told_more (BeginsReclaiming i) e = more _ _ (sym (same_some _ y e)) refl
    told_more (BeginsClearing i) e = more _ _ (sym (same_some _ y e)) refl
    told_more (StepsReclaiming g) e = let p = reclaimed_as same by_hasher batch_size roots aborts x y g e in more _ _ p.4 refl
    told_more (Chooses choice) e = more _ _ (sym (same_some _ y e)) refl

  -- so many were told by a list
  pub told_all : (aborts : ℕ → V) (doings : List (Doing K V S)) (x y : State K V S) → play_all same by_hasher batch_size roots aborts doings x ≡ Some y → length y.told ≡ length x.told + length doings
  told_all aborts [] x y is = ap (λ (s : State K V S). length s.told) (sym (same_some x y is)) ∙ omega arith
  told_all aborts (doing ∷ doings) x y is = by (play same by_hasher batch_size roots aborts doing x) refl is (λ z played. told_all aborts doings z y played)
    where
      by : (o : Option (State K V S)) → play same by_hasher batch_size roots aborts doing x ≡ o → then_on o (play_all same by_hasher batch_size roots aborts doings) ≡ Some y
          → ((z : State K V S) → play_all same by_hasher batch_size roots aborts doings z ≡ Some y → length y.told ≡ length z.told + length doings)
          → length y.told ≡ length x.told + length (doing ∷ doings)
      by None e never ih = absurd (cc never)
      by (Some z) e is ih = let rest = ih z is in let one = told_more aborts x z doing e in omega (arith, rest, one)

  -- What was played before an act is so whatever closures abort with from that act on.
  module _ (aborts other : ℕ → V) where
    abbrev AreSame : List (Doing K V S) → State K V S → Type 0
    AreSame doings x = (n : ℕ) → n < length x.told + length doings → aborts n ≡ other n

    later_same : (doing : Doing K V S) (doings : List (Doing K V S)) (x y : State K V S) → AreSame (doing ∷ doings) x → play same by_hasher batch_size roots aborts doing x ≡ Some y → AreSame doings y
    later_same doing doings x y are played n l = are n (omega (arith, l, told_more aborts x y doing played))

    now_same : (doing : Doing K V S) (doings : List (Doing K V S)) (x : State K V S) → AreSame (doing ∷ doings) x
        → play same by_hasher batch_size roots aborts doing x ≡ play same by_hasher batch_size roots other doing x
    now_same doing doings x are = one_play aborts other doing x (are (length x.told) (omega arith))

    pub plays_same : (doings : List (Doing K V S)) (x : State K V S) → AreSame doings x → play_all same by_hasher batch_size roots aborts doings x ≡ play_all same by_hasher batch_size roots other doings x
    plays_same [] x are = refl
    plays_same (doing ∷ doings) x are =
        by (play same by_hasher batch_size roots aborts doing x) refl (λ y is. plays_same doings y (later_same doing doings x y are is))
        ∙ ap (λ (o : Option (State K V S)). then_on o (play_all same by_hasher batch_size roots other doings)) (now_same doing doings x are)
      where
        by : (o : Option (State K V S)) → play same by_hasher batch_size roots aborts doing x ≡ o
            → ((y : State K V S) → play same by_hasher batch_size roots aborts doing x ≡ Some y
            → play_all same by_hasher batch_size roots aborts doings y ≡ play_all same by_hasher batch_size roots other doings y)
            → then_on o (play_all same by_hasher batch_size roots aborts doings) ≡ then_on o (play_all same by_hasher batch_size roots other doings)
        by None is ih = refl
        by (Some y) is ih = ih y is

    pub new_same : (doings : List (Doing K V S)) (x : State K V S) → AreSame doings x → MakesNew same by_hasher batch_size roots aborts doings x → MakesNew same by_hasher batch_size roots other doings x
    new_same [] x are new = tt
    new_same (doing ∷ doings) x are (now, later) = (
      now,
      λ y played. (let before = now_same doing doings x are ∙ played in new_same doings y (later_same doing doings x y are before) (later y before)),
    )

  -- A list goes on by one more doing.
  module _ (aborts : ℕ → V) (doing : Doing K V S) where
    pub plays_one : (doings : List (Doing K V S)) (x y : State K V S) → play_all same by_hasher batch_size roots aborts doings x ≡ Some y
        → play_all same by_hasher batch_size roots aborts (doings ++ doing ∷ []) x ≡ play same by_hasher batch_size roots aborts doing y
    plays_one [] x y is = last (play same by_hasher batch_size roots aborts doing x) ∙ ap (play same by_hasher batch_size roots aborts doing) (same_some x y is)
      where
        last : (o : Option (State K V S)) → then_on o (λ z. Some z) ≡ o
        last None = refl
        last (Some z) = refl
    plays_one (first ∷ doings) x y is = by (play same by_hasher batch_size roots aborts first x) is (λ z played. plays_one doings z y played)
      where
        by : (o : Option (State K V S)) → then_on o (play_all same by_hasher batch_size roots aborts doings) ≡ Some y
            → ((z : State K V S) → play_all same by_hasher batch_size roots aborts doings z ≡ Some y
            → play_all same by_hasher batch_size roots aborts (doings ++ doing ∷ []) z ≡ play same by_hasher batch_size roots aborts doing y)
            → then_on o (play_all same by_hasher batch_size roots aborts (doings ++ doing ∷ [])) ≡ play same by_hasher batch_size roots aborts doing y
        by None never ih = absurd (cc never)
        by (Some z) is ih = ih z is

    pub new_one : (doings : List (Doing K V S)) (x y : State K V S) → play_all same by_hasher batch_size roots aborts doings x ≡ Some y → MakesNew same by_hasher batch_size roots aborts doings x
        → IsNew same by_hasher batch_size roots aborts y doing → MakesNew same by_hasher batch_size roots aborts (doings ++ doing ∷ []) x
    new_one [] x y is new it = (subst (λ (z : State K V S). IsNew same by_hasher batch_size roots aborts z doing) (sym (same_some x y is)) it, λ z played. tt)
    new_one (first ∷ doings) x y is (now, later) it = (
      now,
      λ z played. new_one doings z y (sym (ap (λ (o : Option (State K V S)). then_on o (play_all same by_hasher batch_size roots aborts doings)) played) ∙ is) (later z played) it,
    )
