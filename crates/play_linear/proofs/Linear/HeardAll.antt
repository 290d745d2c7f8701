-- What was said of calls of a state, where one call goes on, or begins, and others are as they were.
use Rattle.std.specs.Prelude.{◌≡◌, ◌≢◌, ◌⊎◌, ℕ, false, Option, Some}
use Rattle.std.proofs.Common.{ap, sym, subst, ◌∙◌, inl, inr}
use Rattle.std.proofs.lemmas.Bool.{cases_eq}
use Rattle.play_lists.specs.Given.FinishesMaps.{with_call}
use Rattle.run_schedules.specs.Runs.Same.{is_same}
use Rattle.run_schedules.specs.Schedules.Moment.{Moment}
use Rattle.run_schedules.specs.Deeds.Deeds.{moment, named}
use Rattle.play_lists.specs.Played.Play.{Calling, State}
use Rattle.play_lists.proofs.Played.Alike.{its_call, others_call}
use Rattle.play_lists.proofs.Played.Noted.{CallsAreNoted, apart, at_other_map, one_call}
use Rattle.play_linear.proofs.Linear.Heard.{IsHeard, SaidOn, heard_on}

-- Each call of a state was heard so.
abbrev pub AreHeardAt : {K V : Type 0} → Moment K V → (ℕ → ℕ → Option (Calling K V)) → Type 0
AreHeardAt {K} {V} v calls = (on j : ℕ) (d : Calling K V) → calls on j ≡ Some d → IsHeard v j d.call d.machine d.value

module _ {K V S : Type 0} where
  abbrev pub AreHeard : State K V S → Type 0
  AreHeard x = AreHeardAt (moment x.history) x.now.calls

  module _ (x : State K V S) (heard : AreHeard x) where
    -- where all was said of them again,
    pub all_heard : (v : Moment K V) → ((j : ℕ) → SaidOn (moment x.history) v j) → (calls : ℕ → ℕ → Option (Calling K V)) → ((on j : ℕ) → calls on j ≡ x.now.calls on j) → AreHeardAt v calls
    all_heard v said calls as_before on j d has = heard_on (moment x.history) v j (said j) d.call d.machine d.value (heard on j d (sym (as_before on j) ∙ has))

    -- and where one caller's call on a map, who has none on another, is this
    pub one_heard : (i m : ℕ) (next : Option (Calling K V)) (v : Moment K V) → ((j : ℕ) → is_same (named i) (named j) ≡ false → SaidOn (moment x.history) v j)
        → ((d : Calling K V) → next ≡ Some d → IsHeard v i d.call d.machine d.value) → ((on : ℕ) (d : Calling K V) → on ≢ m → x.now.calls on i ≡ Some d → ⊥) → AreHeardAt v (with_call x.now.calls m i next)
    one_heard i m next v aside itself no_other on j d has = by (cases_eq j i) (cases_eq on m)
      where
        by : (j ≡ i) ⊎ (j ≢ i) → (on ≡ m) ⊎ (on ≢ m) → IsHeard v j d.call d.machine d.value
        by (inr ne) at_map =
            heard_on (moment x.history) v j (aside j (apart i j ne)) d.call d.machine d.value (heard on j d (sym (others_call x.now.calls m i next on j ne) ∙ has))
        by (inl e) (inr ne) = absurd (no_other on d ne (sym (ap (x.now.calls on) e) ∙ sym (at_other_map x.now.calls m i next on j ne) ∙ has))
        by (inl e) (inl f) =
            subst (λ (k : ℕ). IsHeard v k d.call d.machine d.value) (sym e)
            (itself d (sym (its_call x.now.calls m i next) ∙ sym (ap (λ (k : ℕ). with_call x.now.calls m i next k i) f) ∙ sym (ap (with_call x.now.calls m i next on) e) ∙ has))

  -- a caller whose call is noted has none on another map
  pub none_other : (x : State K V S) → CallsAreNoted x → (i m : ℕ) (c : Calling K V) → x.now.calls m i ≡ Some c → (on : ℕ) (d : Calling K V) → on ≢ m → x.now.calls on i ≡ Some d → ⊥
  none_other x noted i m c here on d ne there = ne (sym (one_call (moment x.history) m on i c.call d.call (noted m i c here) (noted on i d there)))
