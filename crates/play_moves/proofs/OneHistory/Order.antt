-- What the answers of a caller are, as its calls go on.
use Rattle.std.specs.Prelude.{◌≢◌, ◌==◌, ◌&&◌, ◌++◌, ◌⊎◌, Option, Some, if◌then◌else◌}
use Rattle.std.proofs.Common.{◌≡◌, ℕ, Bool, true, false, List, [], ◌∷◌, inl, inr, refl, sym, subst, ap, ◌∙◌}
use Rattle.std.proofs.lemmas.Bool.{cases_eq, ne_eqb}
use Rattle.run_legal.specs.Given.TablesDeclared.node.Node.{Node}
use Rattle.run_schedules.specs.Given.RawDeclared.machines.progress.Progress.{Progress}
use Rattle.run_schedules.specs.Given.RawDeclared.machines.progress.Progress.TheVariants as progress
use Rattle.threads_rule.specs.Views.Listed.{Called, has_progressed}
use Rattle.run_schedules.specs.Schedules.Entry.{acting}
use Rattle.run_schedules.specs.Schedules.Moment.{UnderWay}
use Rattle.run_schedules.specs.declared.call.Response.{Response}
use Rattle.run_schedules.specs.declared.call.Call.{Call}
use Rattle.run_schedules.specs.Deeds.Deeds.{Deed, Entry, caller_of, moment}
use Rattle.run_schedules.specs.Deeds.History.{answered, answers_of, is_of}
use Rattle.run_legal.specs.Given.EffectsKnown.{Known}
use Rattle.run_legal.specs.Given.NamedSeen.{kind_of}
use Rattle.play_linear.specs.Given.PlayedPlay.{call_for, outcome_of}
use Rattle.play_moves.specs.OneHistory.Answered.{ByNewest, IfElse}
use Rattle.play_moves.specs.OneHistory.Order.{HaveGot, IsNewestAnswer, is_answer}

and_false : (q : Bool) → (q && false) ≡ false
and_false true = refl
and_false false = refl

module _ {K V : Type 0} (i : ℕ) where
  -- so it is of the newest call of the caller
  abbrev pub NewestCall : (Called K V → Type 0) → List (Called K V) → Type 0
  NewestCall So [] = Unit {0}
  NewestCall So (one ∷ before) = IfElse (one.caller == i) (So one) (NewestCall So before)

  -- it has no answer yet
  abbrev pub IsOpen : List (Called K V) → Type 0
  IsOpen = NewestCall (λ one. is_answer one.told ≡ false)

  -- it is for this
  abbrev pub Wants : Call K V → List (Called K V) → Type 0
  Wants call [] = ⊥
  Wants call (one ∷ before) = IfElse (one.caller == i) (call_for one.wanted ≡ call) (Wants call before)

  module _ (told : Progress (Node K V)) where
    -- it goes on, and has no answer
    pub open_then : is_answer told ≡ false → (calls : List (Called K V)) → IsOpen calls → IsOpen (has_progressed i told calls)
    open_then none [] unanswered = tt
    open_then none (one ∷ before) unanswered = by (λ rest. open_then none before rest) (one.caller == i) refl
      where
        by : (IsOpen before → IsOpen (has_progressed i told before)) → (q : Bool) → (one.caller == i) ≡ q → IsOpen (if q then record one { told = told } ∷ before else one ∷ has_progressed i told before)
        by rest true e = subst (λ (k : Bool). IfElse k (is_answer told ≡ false) (IsOpen before)) (sym e) none
        by rest false e =
            subst (λ (k : Bool). IfElse k (is_answer one.told ≡ false) (IsOpen (has_progressed i told before))) (sym e)
            (rest (subst (λ (k : Bool). IfElse k (is_answer one.told ≡ false) (IsOpen before)) e unanswered))

  -- with what it is told last
  module _ (there : UnderWay K V) (known : Known) (value : Option V) (call : Call K V) (is : there.call ≡ call) where
    abbrev New : Progress (Node K V) → List (Call K V × Response V)
    New told = answered (Some there) (outcome_of {K = K} known (kind_of call) value told)

    now : (one : Called K V) (before : List (Called K V)) (answers : List (Call K V × Response V)) → (one.caller == i) ≡ true → call_for one.wanted ≡ call → HaveGot i before answers
        → (told : Progress (Node K V)) → HaveGot i (record one { told = told } ∷ before) (New told ++ answers)
    now one before answers e wants got (progress.Done said) =
        subst (λ (k : Bool). IfElse k (IsNewestAnswer (record one { told = progress.Done said }) (HaveGot i before) (New (progress.Done said) ++ answers)) (HaveGot i before (New (progress.Done said) ++ answers))) (sym e)
        (is ∙ sym wants, (known, value, ap (λ (c : Call K V). outcome_of {K = K} known (kind_of c) value (progress.Done said)) wants), got)
    now one before answers e wants got progress.Goes = got
    now one before answers e wants got (progress.Gave node) = got
    now one before answers e wants got (progress.Unstored node) = got
    now one before answers e wants got progress.Waits = got
    now one before answers e wants got (progress.Asks word) = got
    now one before answers e wants got progress.Ready = got
    now one before answers e wants got (progress.Pair word) = got
    now one before answers e wants got (progress.Refused fault) = got

    module _ (told : Progress (Node K V)) where
      pub got_then : (calls : List (Called K V)) (answers : List (Call K V × Response V)) → IsOpen calls → Wants call calls → HaveGot i calls answers → HaveGot i (has_progressed i told calls) (New told ++ answers)
      got_then [] answers unanswered wants got = absurd wants
      got_then (one ∷ before) answers unanswered wants got = by (λ o w g. got_then before answers o w g) (one.caller == i) refl
        where
          by : (IsOpen before → Wants call before → HaveGot i before answers → HaveGot i (has_progressed i told before) (New told ++ answers)) → (q : Bool) → (one.caller == i) ≡ q
              → HaveGot i (if q then record one { told = told } ∷ before else one ∷ has_progressed i told before) (New told ++ answers)
          by rest true e =
              let none : is_answer one.told ≡ false = subst (λ (k : Bool). IfElse k (is_answer one.told ≡ false) (IsOpen before)) e unanswered in
              now one before answers e (subst (λ (k : Bool). IfElse k (call_for one.wanted ≡ call) (Wants call before)) e wants)
              (subst (λ (k : Bool). IfElse (k && (one.caller == i)) (IsNewestAnswer one (HaveGot i before) answers) (HaveGot i before answers)) none got) told
          by rest false e =
              let aside : (is_answer one.told && (one.caller == i)) ≡ false = ap (λ (k : Bool). is_answer one.told && k) e ∙ and_false (is_answer one.told) in
              subst (λ (k : Bool). IfElse k (IsNewestAnswer one (HaveGot i (has_progressed i told before)) (New told ++ answers)) (HaveGot i (has_progressed i told before) (New told ++ answers))) (sym aside)
              (rest (subst (λ (k : Bool). IfElse k (is_answer one.told ≡ false) (IsOpen before)) e unanswered) (subst (λ (k : Bool). IfElse k (call_for one.wanted ≡ call) (Wants call before)) e wants)
              (subst (λ (k : Bool). IfElse k (IsNewestAnswer one (HaveGot i before) answers) (HaveGot i before answers)) aside got))

-- Another caller's calls are aside.
module _ {K V : Type 0} (i j : ℕ) (ne : j ≢ i) (told : Progress (Node K V)) where
  not_its : (caller : ℕ) → (caller == i) ≡ true → (caller == j) ≡ false
  not_its caller e = by (cases_eq caller i)
    where
      by : (caller ≡ i) ⊎ (caller ≢ i) → (caller == j) ≡ false
      by (inl is) = ne_eqb caller j (λ f. ne (sym f ∙ is))
      by (inr other) = absurd (let none = ne_eqb caller i other in let both : true ≡ false = sym e ∙ none in cc both)

  pub others_newest : (So : Called K V → Type 0) (calls : List (Called K V)) → NewestCall j So calls → NewestCall j So (has_progressed i told calls)
  others_newest So [] was = was
  others_newest So (one ∷ before) was = by (λ rest. others_newest So before rest) (one.caller == i) refl
    where
      on : (NewestCall j So before → NewestCall j So (has_progressed i told before)) → (k : Bool) → IfElse k (So one) (NewestCall j So before) → IfElse k (So one) (NewestCall j So (has_progressed i told before))
      on rest true so = so
      on rest false so = rest so

      by : (NewestCall j So before → NewestCall j So (has_progressed i told before)) → (q : Bool) → (one.caller == i) ≡ q
          → NewestCall j So (if q then record one { told = told } ∷ before else one ∷ has_progressed i told before)
      by rest true e =
          subst (λ (k : Bool). IfElse k (So (record one { told = told })) (NewestCall j So before)) (sym (not_its one.caller e))
          (subst (λ (k : Bool). IfElse k (So one) (NewestCall j So before)) (not_its one.caller e) was)
      by rest false e = on rest (one.caller == j) was

  pub others_got : (calls : List (Called K V)) (answers : List (Call K V × Response V)) → HaveGot j calls answers → HaveGot j (has_progressed i told calls) answers
  others_got [] answers got = got
  others_got (one ∷ before) answers got = by (λ a g. others_got before a g) (one.caller == i) refl
    where
      newest : ((a : List (Call K V × Response V)) → HaveGot j before a → HaveGot j (has_progressed i told before) a) → (a : List (Call K V × Response V)) → IsNewestAnswer one (HaveGot j before) a
          → IsNewestAnswer one (HaveGot j (has_progressed i told before)) a
      newest rest [] was = was
      newest rest (one_got ∷ a) was = (was.0, was.1, rest a was.2)

      on : ((a : List (Call K V × Response V)) → HaveGot j before a → HaveGot j (has_progressed i told before) a) → (k : Bool) → IfElse k (IsNewestAnswer one (HaveGot j before) answers) (HaveGot j before answers)
          → IfElse k (IsNewestAnswer one (HaveGot j (has_progressed i told before)) answers) (HaveGot j (has_progressed i told before) answers)
      on rest true was = newest rest answers was
      on rest false was = rest answers was

      aside : (p : Progress (Node K V)) → (one.caller == i) ≡ true → (is_answer p && (one.caller == j)) ≡ false
      aside p e = ap (λ (k : Bool). is_answer p && k) (not_its one.caller e) ∙ and_false (is_answer p)

      by : ((a : List (Call K V × Response V)) → HaveGot j before a → HaveGot j (has_progressed i told before) a) → (q : Bool) → (one.caller == i) ≡ q
          → HaveGot j (if q then record one { told = told } ∷ before else one ∷ has_progressed i told before) answers
      by rest true e =
          subst (λ (k : Bool). IfElse k (IsNewestAnswer (record one { told = told }) (HaveGot j before) answers) (HaveGot j before answers)) (sym (aside told e))
          (subst (λ (k : Bool). IfElse k (IsNewestAnswer one (HaveGot j before) answers) (HaveGot j before answers)) (aside one.told e) got)
      by rest false e = on rest (is_answer one.told && (one.caller == j)) got

-- An entry that is no step of the caller's call leaves what its calls have come to.
module _ {K V : Type 0} (i : ℕ) where
  abbrev pub IsAside : List (Entry K V) → List (Entry K V) → Type 0
  IsAside history then_ = (then_ ≡ history) ⊎ ((e : Entry K V) × (then_ ≡ e ∷ history) × (is_of i e.deed ≡ false))

  pub same_answers : (history then_ : List (Entry K V)) → IsAside history then_ → answers_of i then_ ≡ answers_of i history
  same_answers history then_ (inl is) = ap (answers_of i) is
  same_answers history then_ (inr (e, is, none)) =
      ap (answers_of i) is ∙ ap (λ (q : Bool). if q then answered (acting (caller_of e.deed) (moment history)) e.outcome ++ answers_of i history else answers_of i history) none

  pub newest_still : (So : List (Entry K V) → Entry K V → Type 0) (history then_ : List (Entry K V)) → IsAside history then_ → ByNewest i So history → ByNewest i So then_
  newest_still So history then_ (inl is) was = subst (λ (x : List (Entry K V)). ByNewest i So x) (sym is) was
  newest_still So history then_ (inr (e, is, none)) was =
      subst (λ (x : List (Entry K V)). ByNewest i So x) (sym is) (subst (λ (q : Bool). IfElse q (So history e) (ByNewest i So history)) (sym none) was)

  pub newest_as : (So Too : List (Entry K V) → Entry K V → Type 0) → ((log : List (Entry K V)) (e : Entry K V) → So log e → Too log e) → (history : List (Entry K V)) → ByNewest i So history
      → ByNewest i Too history
  newest_as So Too as_well [] was = was
  newest_as So Too as_well (e ∷ log) was = by (λ rest. newest_as So Too as_well log rest) (is_of i e.deed) was
    where
      by : (ByNewest i So log → ByNewest i Too log) → (q : Bool) → IfElse q (So log e) (ByNewest i So log) → IfElse q (Too log e) (ByNewest i Too log)
      by rest true so = as_well log e so
      by rest false so = rest so

  pub aside_if : (q : Bool) (e : Entry K V) (history : List (Entry K V)) → is_of i e.deed ≡ false → IsAside history (if q then e ∷ history else history)
  aside_if true e history none = inr (e, refl, none)
  aside_if false e history none = inl refl

  pub either_of : (q : Bool) (d other : Deed K V) → is_of i d ≡ false → is_of i other ≡ false → is_of i (if q then d else other) ≡ false
  either_of true d other none none_other = none
  either_of false d other none none_other = none_other
