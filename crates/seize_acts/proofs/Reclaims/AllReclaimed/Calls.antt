-- A section ends, or a batch is flushed, alone: what is reclaimed, and that nobody knew it any more.
use Rattle.std.specs.Prelude.{Option}
use Rattle.std.proofs.Common.{◌≡◌, ℕ, zero, suc, ◌+◌, true, List, ◌++◌, ◌⊎◌, inl, inr, refl, arith, ap, sym, subst, ◌∙◌}
use Rattle.seize_words.specs.OneMemory.Mem.{Mem}
use Rattle.seize.specs.declared.rows.settle.Settled.TheVariants.{Done}
use Rattle.seize_model.specs.declared.calls.WholeCall.{WholeCall}
use Rattle.seize.specs.Law.{Effect, is_somewhere, reachable, where_is}
use Rattle.seize.specs.World.{World, Hand, Request, Flush, Leave', Begin, Steps', handed_by, times}
use Rattle.seize.specs.Sequence.{taken_in}
use Rattle.seize_model.specs.Given.SeizeWaitingHeld.{count}
use Rattle.seize_model.specs.Alone.Alone.{IsOfUsers, History, IsHistory, IsMidway, TakesSteps, CallSteps, SameLeft, at_rest, called, given_back, hand_at, row_of}
use Rattle.seize_acts.specs.Reclaims.AllReclaimed.{IsKnown, OnlyReclaims}
use Rattle.seize_model.proofs.Alone.Histories.Hands.{times_counted, hand_spared, hand_gone}
use Rattle.seize_model.proofs.Alone.Histories.NotTaken.{IsKept, CanBeReached, IsHad, did, not_taken, kept_hand, nobodys}
use Rattle.seize_model.proofs.Alone.Histories.Reached.{Reached, happens_reached, history_reached, steps_reached}
use Rattle.seize_acts.proofs.Reclaims.Roots.Listed.{times_append}
use Rattle.seize_model.proofs.Alone.Whole.Midway.{taken_append}
use Rattle.seize_model.proofs.Alone.Whole.Steps.{WholeEnd, call_whole, stepped_left}
use Rattle.seize_model.proofs.Given.SeizeRuleRows.Effects.{place_kept}

module _ {T : Type 0} (defers : T → Option ℕ) (size : ℕ) where
  -- the block can be reached, or a caller has it
  abbrev Knows : World T → ℕ → Type 0
  Knows w b = (reachable b w.log ≡ true) ⊎ IsOfUsers (w.hand b)

  kept_of : (w : World T) (b : ℕ) → Knows w b → IsKept b w
  kept_of w b (inl reached) = CanBeReached reached
  kept_of w b (inr had) = IsHad had

  -- It isn't reclaimed meanwhile, and is where it was.
  abbrev Stays : World T → World T → ℕ → Type 0
  Stays w n b = (times b (taken_in n.log) ≡ times b (taken_in w.log)) × (where_is b n.log ≡ where_is b w.log)

  step_known : (w v : World T) (r : Reached defers size w) → (step : Steps' defers 0 (w.row 0) w v) → (b : ℕ) → Knows w b → Stays w v b × Knows v b
  step_known w v r step b k =
      let d = did defers size w r 0 v step in
      let kept = kept_of w b k in
      let none = not_taken defers size w r 0 v step b kept in
      let place : where_is b v.log ≡ where_is b w.log = ap (where_is b) d.logged ∙ place_kept b d.effects w.log d.one in
      let split : times b (taken_in v.log) ≡ times b (taken_in w.log) + times b (taken_in d.effects) =
      ap (λ (l : List Effect). times b (taken_in l)) d.logged ∙ ap (times b) (taken_append d.effects w.log) ∙ times_append b (taken_in w.log) (taken_in d.effects) in
      ((omega (arith, split, none), place), still k place (kept_hand defers size w r 0 v step b kept))
    where
      still : Knows w b → where_is b v.log ≡ where_is b w.log → v.hand b ≡ w.hand b → Knows v b
      still (inl reached) place hand = inl (ap is_somewhere place ∙ reached)
      still (inr had) place hand = inr (subst (λ (x : Hand). IsOfUsers x) (sym hand) had)

  steps_known : (steps : ℕ) (w n : World T) → Reached defers size w → TakesSteps defers steps 0 w n → (b : ℕ) → Knows w b → Stays w n b
  steps_known zero w n r st b k = (ap (λ (v : World T). times b (taken_in v.log)) st, ap (λ (v : World T). where_is b v.log) st)
  steps_known (suc steps) w n r st b k =
      let one = step_known w st.0 r st.1 b k in
      let rest = steps_known steps st.0 n (steps_reached defers size 0 w st.0 r st.1) st.2 b one.1 in
      (rest.0 ∙ one.0.0, rest.1 ∙ one.0.1)

module _ {T : Type 0} (defers : T → Option ℕ) (batch_size roots : ℕ) (m : Mem T) (h : History) (had : IsHistory defers batch_size roots m h) where
  module _ (request : Request) (given : List T) (m2 : Mem T) (end : WholeEnd defers batch_size roots m h request given m2) (same_log : end.begun.log ≡ h.log) (same_hand : end.begun.hand ≡ h.hand)
      (plain : hand_at request h.hand ≡ h.hand) (links : SameLeft h m m2) where
    abbrev h2 : History
    h2 = called request end.effects h

    abbrev back : List ℕ
    back = given_back batch_size request h

    begun : Reached defers batch_size end.begun
    begun = happens_reached defers batch_size (Begin 0 request) (at_rest defers m h) end.begun (history_reached defers batch_size roots m h had) (refl, end.begins)

    stays : (b : ℕ) → IsKnown h b → Stays defers batch_size end.begun end.last b
    stays b k = steps_known defers batch_size end.steps end.begun end.last begun end.runs b (first k)
      where
        first : IsKnown h b → Knows defers batch_size end.begun b
        first (inl reached) = inl (ap (reachable b) same_log ∙ reached)
        first (inr own) = inr (subst (λ (x : Hand). IsOfUsers x) (sym (ap (λ (f : ℕ → Hand). f b) same_hand)) own)

    not_back : (b : ℕ) → IsKnown h b → times b back ≡ 0
    not_back b k =
        let same = (stays b k).0 in
        let begin = ap (λ (l : List Effect). times b (taken_in l)) same_log in
        let split : times b (taken_in end.last.log) ≡ times b (taken_in h.log) + times b back =
        ap (λ (l : List Effect). times b (taken_in l)) end.logged ∙ ap (times b) (taken_append end.effects h.log) ∙ ap (λ (l : List ℕ). times b (taken_in h.log ++ l)) end.gave
        ∙ times_append b (taken_in h.log) back in
        omega (arith, same, begin, split)

    hand_is : (b : ℕ) → h2.hand b ≡ handed_by end.effects h.hand b
    hand_is b = ap (λ (f : ℕ → Hand). handed_by end.effects f b) plain

    in_effects : (b : ℕ) → count b (taken_in end.effects) ≡ times b back
    in_effects b = ap (count b) end.gave ∙ sym (times_counted b back)

    only : OnlyReclaims m h m2 h2 back
    only = record {
      spares = end.spares;
      gone = λ b some.
          nobodys defers batch_size (at_rest defers m2 h2) (history_reached defers batch_size roots m2 h2 end.history) b
          (hand_is b ∙ hand_gone b end.effects h.hand (λ e. let k = in_effects b in omega (arith, k, e, some)));
      links = links;
      hands = λ b e. hand_is b ∙ hand_spared b end.effects h.hand (in_effects b ∙ e);
      known = λ b k. (not_back b k, ap (where_is b) (sym end.logged) ∙ (stays b k).1 ∙ ap (where_is b) same_log);
    }

  -- so it is with the last step of a call
  module _ (m2 : Mem T) (given : List T) (m3 : Mem T) (c d : WholeCall) where
    left_on : (request : Request) → IsMidway defers batch_size roots m h request (row_of c) m2 given → CallSteps defers m2 c m3 d Done → SameLeft h m m3
    left_on request mid st b e = stepped_left defers batch_size roots m h request m2 given m3 c d Done mid st b 0 e

    -- its batch is flushed
    pub flush_end : (s : ℕ) → IsMidway defers batch_size roots m h (Flush s) (row_of c) m2 given → CallSteps defers m2 c m3 d Done
        → (end : WholeEnd defers batch_size roots m h (Flush s) given m3) × OnlyReclaims m h m3 (called (Flush s) end.effects h) (given_back batch_size (Flush s) h)
    flush_end s mid st =
        let end = call_whole defers batch_size roots m h (Flush s) m2 given m3 c d mid st in
        let b = end.begins in
        (end, only (Flush s) given m3 end (ap (λ (w : World T). w.log) b.1) (ap (λ (w : World T). w.hand) b.1) refl (left_on (Flush s) mid st))

    -- its section ends
    pub leave_end : (s : ℕ) → IsMidway defers batch_size roots m h (Leave' s) (row_of c) m2 given → CallSteps defers m2 c m3 d Done
        → (end : WholeEnd defers batch_size roots m h (Leave' s) given m3) × OnlyReclaims m h m3 (called (Leave' s) end.effects h) (given_back batch_size (Leave' s) h)
    leave_end s mid st =
        let end = call_whole defers batch_size roots m h (Leave' s) m2 given m3 c d mid st in
        let b = end.begins in
        (end, only (Leave' s) given m3 end (ap (λ (w : World T). w.log) b.1) (ap (λ (w : World T). w.hand) b.1) refl (left_on (Leave' s) mid st))
