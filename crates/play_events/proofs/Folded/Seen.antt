-- What a call owes, and by which event it began, stays as an event is over; and a call that is there where one has begun what it begins was there, or owes nothing.
use Rattle.std.specs.Prelude.{◌≡◌, ◌⊎◌, ℕ, ◌+◌, Bool, true, false, cond, not, List, [], ◌∷◌, find, map, Option, Some, None, if◌then◌else◌}
use Rattle.std.proofs.Common.{refl, ap, sym, subst, ◌∙◌, inl, inr}
use Rattle.run_schedules.specs.Runs.Same.{is_same}
use Rattle.run_schedules.specs.declared.call.Call.{Call}
use Rattle.run_schedules.specs.declared.call.Reply.{Reply}
use Rattle.run_schedules.specs.declared.effect.Thing.{Thing}
use Rattle.run_schedules.specs.declared.event.Event.{Event}
use Rattle.run_schedules.specs.declared.event.Event.TheVariants.{Begin, MakeMap, OneCall, Replied, Stop}
use Rattle.run_schedules.specs.declared.outcome.Outcome.{Outcome}
use Rattle.run_schedules.specs.declared.outcome.Outcome.TheVariants.{Asks, Done, Goes}
use Rattle.run_schedules.specs.Schedules.After.{asks_on, calls_on, with_outcome, replied, stepped, without_call}
use Rattle.run_schedules.specs.Schedules.Beginning.{begun, fresh_call, with_call}
use Rattle.run_schedules.specs.Schedules.Entry.{caller_of, ends_call, is_busy, nameless}
use Rattle.run_schedules.specs.Schedules.Moment.{Asking, Moment, CallState, UnderWay as CallThere}
use Rattle.run_schedules.specs.Schedules.Views.{call_of, number_of}
use Rattle.play_lists.proofs.Given.FollowsCalling.{is_same_is}
use Rattle.play_stepping.proofs.Given.RowsLists.{both_some, found_alike, unseen}
use Rattle.play_stepping.proofs.Given.General.{same_some as one_of}

-- what is seen of a call
record Seen : Type 0 where
  pub name : List ℕ
  pub owes : List Thing
  pub begun : ℕ

module _ {K V : Type 0} where
  abbrev seen_of : CallThere K V → Seen
  seen_of c = record { name = c.caller; owes = c.owes; begun = c.begun }

  -- each call that is found in the second list is found in the first one, and owes the same
  abbrev pub SeenIn : (before after : List (CallThere K V)) → Type 0
  SeenIn before after =
      (own : List ℕ) (c : CallThere K V) → find (λ x. is_same x.caller own) after ≡ Some c
      → (d : CallThere K V) × (find (λ x. is_same x.caller own) before ≡ Some d) × (d.owes ≡ c.owes) × (d.begun ≡ c.begun)

  seen_same : (xs : List (CallThere K V)) → SeenIn xs xs
  seen_same xs own c is = (c, is, refl, refl)

  -- so it is after a change that nothing is seen of
  changed_seen : (own : List ℕ) (change : CallThere K V → CallThere K V) → ((c : CallThere K V) → seen_of (change c) ≡ seen_of c) → (xs : List (CallThere K V))
      → SeenIn xs (map (λ c. if is_same c.caller own then change c else c) xs)
  changed_seen own change same xs who c is =
      let ys = map (λ c. if is_same c.caller own then change c else c) xs in
      let alike = unseen seen_of (λ c. if is_same c.caller own then change c else c) (λ c. by c (is_same c.caller own)) xs in
      let d = both_some seen_of seen_of (find (λ x. is_same x.caller who) xs) (find (λ x. is_same x.caller who) ys) (sym (found_alike seen_of seen_of ys xs alike (λ z. is_same z.name who))) c is in
      (d.0, d.1, ap (λ (z : Seen). z.owes) d.2, ap (λ (z : Seen). z.begun) d.2)
    where
      by : (c : CallThere K V) (q : Bool) → seen_of (if q then change c else c) ≡ seen_of c
      by c true = same c
      by c false = refl

  -- a call that is told something, or comes to something
  told_seen : (reply : Reply V) (c : CallThere K V) (stands : CallState) → seen_of (replied reply c stands) ≡ seen_of c
  told_seen reply c (Asking q) = refl
  told_seen reply c _ = refl

  asks_seen : (question : Option ℕ) (c : CallThere K V) (stands : CallState) → seen_of (asks_on question c stands) ≡ seen_of c
  asks_seen question c (Asking q) = refl
  asks_seen question c _ = refl

  comes_seen : (o : Outcome V) (steps : ℕ) (c : CallThere K V) → seen_of (with_outcome o (record c { steps = steps })) ≡ seen_of c
  comes_seen (Asks question) steps c = asks_seen question (record c { steps = steps }) c.stands
  comes_seen _ steps c = refl

  -- where calls of one name are gone, those that are found have other names
  not_both : (z own : List ℕ) (c : CallThere K V) (ys : List (CallThere K V)) → z ≡ own → find (λ x. is_same x.caller z) (without_call own ys) ≡ Some c → ⊥
  not_both z own c [] e is = absurd (cc is)
  not_both z own c (y ∷ ys) e is = one (is_same y.caller own) refl is (not_both z own c ys e)
    where
      one : (q : Bool) → is_same y.caller own ≡ q → find (λ x. is_same x.caller z) (cond (not q) (y ∷ without_call own ys) (without_call own ys)) ≡ Some c
          → (find (λ x. is_same x.caller z) (without_call own ys) ≡ Some c → ⊥) → ⊥
      one true f at ih = ih at
      one false f at ih =
          ih (sym (ap (λ (q : Bool). cond q (Some y) (find (λ x. is_same x.caller z) (without_call own ys))) (ap (λ (l : List ℕ). is_same y.caller l) e ∙ f)) ∙ at)

  left_seen : (own : List ℕ) (ys : List (CallThere K V)) → SeenIn ys (without_call own ys)
  left_seen own ys who c is = (c, found who ys is, refl, refl)
    where
      found : (z : List ℕ) (xs : List (CallThere K V)) → find (λ x. is_same x.caller z) (without_call own xs) ≡ Some c → find (λ x. is_same x.caller z) xs ≡ Some c
      found z [] at = absurd (cc at)
      found z (y ∷ xs) at = one (is_same y.caller own) (is_same y.caller z) refl refl at (found z xs)
        where
          Found : Bool → Type 0
          Found b = cond b (Some y) (find (λ x. is_same x.caller z) xs) ≡ Some c

          one : (a b : Bool) → is_same y.caller own ≡ a → is_same y.caller z ≡ b → find (λ x. is_same x.caller z) (cond (not a) (y ∷ without_call own xs) (without_call own xs)) ≡ Some c
              → (find (λ x. is_same x.caller z) (without_call own xs) ≡ Some c → find (λ x. is_same x.caller z) xs ≡ Some c) → find (λ x. is_same x.caller z) (y ∷ xs) ≡ Some c
          one true true e f is2 ih = absurd (not_both z own c xs (sym (is_same_is y.caller z f) ∙ is_same_is y.caller own e) is2)
          one true false e f is2 ih = subst Found (sym f) (ih is2)
          one false b e f is2 ih = by b f
            where
              Left : Bool → Type 0
              Left q = cond q (Some y) (find (λ x. is_same x.caller z) (without_call own xs)) ≡ Some c

              by : (q : Bool) → is_same y.caller z ≡ q → Found (is_same y.caller z)
              by true g = subst Found (sym g) (subst Left g is2)
              by false g = subst Found (sym g) (ih (subst Left g is2))

  steps_seen : (who : Option (List ℕ)) (o : Outcome V) (steps : ℕ) (xs : List (CallThere K V)) → SeenIn xs (stepped who o steps xs)
  steps_seen None o steps xs = seen_same xs
  steps_seen (Some own) o steps xs = by (ends_call o)
    where
      by : (q : Bool) → SeenIn xs (if q then without_call own xs else map (λ c. if is_same c.caller own then with_outcome o (record c { steps = c.steps + steps }) else c) xs)
      by true = left_seen own xs
      by false = changed_seen own (λ c. with_outcome o (record c { steps = c.steps + steps })) (λ c. comes_seen o (c.steps + steps) c) xs

  pub calls_seen : (event : Event K V) (o : Outcome V) (steps : ℕ) (xs : List (CallThere K V)) → SeenIn xs (calls_on event o steps xs)
  calls_seen (Replied caller reply) Goes steps xs = changed_seen caller (λ c. replied reply c c.stands) (λ c. told_seen reply c c.stands) xs
  calls_seen (Stop caller) Done steps xs = left_seen caller xs
  calls_seen event o steps xs = steps_seen (caller_of event) o steps xs

  -- a call that has begun just now owes nothing
  abbrev pub WasOrBegins : Moment K V → List ℕ → CallThere K V → Type 0
  WasOrBegins m own c = (call_of own m ≡ Some c) ⊎ ((c.owes ≡ []) × (c.begun ≡ m.events))

  with_was : (caller guard : List ℕ) (its : Call K V) (of : Option ℕ) (m : Moment K V) (own : List ℕ) (c : CallThere K V) → call_of own (with_call caller guard its of m) ≡ Some c → WasOrBegins m own c
  with_was caller guard its None m own c is = inl is
  with_was caller guard its (Some number) m own c is = by (is_same caller own) is
    where
      fresh : CallThere K V
      fresh = fresh_call caller guard its number m.events

      by : (q : Bool) → cond q (Some fresh) (call_of own m) ≡ Some c → WasOrBegins m own c
      by true e = let one = one_of fresh c e in inr (ap (λ (x : CallThere K V). x.owes) (sym one), ap (λ (x : CallThere K V). x.begun) (sym one))
      by false e = inl e

  pub begun_was : (event : Event K V) (o : Outcome V) (m : Moment K V) (own : List ℕ) (c : CallThere K V) → call_of own (begun event o m) ≡ Some c → WasOrBegins m own c
  begun_was (Begin caller guard name its) Goes m own c is = with_was caller guard its (number_of name m) m own c is
  begun_was (OneCall guard name its) o m own c is = by (is_busy o) is
    where
      by : (q : Bool) → call_of own (if q then m else with_call nameless guard its (number_of name m) m) ≡ Some c → WasOrBegins m own c
      by true e = inl e
      by false e = with_was nameless guard its (number_of name m) m own c e
  begun_was (MakeMap name mode capacity) Done m own c is = inl is
  begun_was _ _ m own c is = inl is
