-- What a state that is played tells of the calls of a seat: those that have ended were answered in its history, and those that are under way are the newest of their callers; and
-- the pairs that were noted as the newest one ended are those that were seen.
use Rattle.std.specs.Prelude.{◌≢◌, ◌==◌, ◌⊎◌, Option, Some, if◌then◌else◌}
use Rattle.std.specs.List.{AllByRecursion}
use Rattle.std.proofs.Common.{◌≡◌, ℕ, Bool, true, false, List, [], ◌∷◌, inl, inr, sym, subst}
use Rattle.std.proofs.lemmas.Bool.{cases_eq, eq-eqb, ne_eqb}
use Rattle.run_legal.specs.Given.TablesDeclared.node.Node.{Node}
use Rattle.run_legal.specs.Given.TablesDeclared.node.Node.TheVariants.{Pair}
use Rattle.run_schedules.specs.Given.RawDeclared.machines.progress.Progress.{Progress}
use Rattle.threads_rule.specs.Views.Listed.{Called, has_progressed, seat_of}
use Rattle.run_schedules.specs.declared.call.Response.{Response}
use Rattle.run_schedules.specs.declared.call.Call.{Call}
use Rattle.run_schedules.specs.declared.call.Call.TheVariants.{On}
use Rattle.run_schedules.specs.declared.call.OneKey.{OneKey}
use Rattle.run_schedules.specs.declared.call.OneKey.TheVariants.{Get}
use Rattle.run_schedules.specs.declared.call.Reply.{Reply}
use Rattle.run_schedules.specs.Given.SeizeWordsMem.{Mem, value_at}
use Rattle.run_legal.specs.Given.HistoriesEvents.{HasOutcome}
use Rattle.run_schedules.specs.declared.outcome.Outcome.{Outcome}
use Rattle.run_schedules.specs.declared.outcome.Outcome.TheVariants.{Answered}
use Rattle.threads_rule.specs.Given.ActsActs.{Wanted}
use Rattle.run_schedules.specs.Deeds.Deeds.{Entry, moment}
use Rattle.run_schedules.specs.Deeds.History.{answers_of}
use Rattle.run_legal.specs.Given.EffectsKnown.{Known}
use Rattle.run_legal.specs.Given.EffectsDeclared.role.Role.TheVariants as role
use Rattle.run_legal.specs.Given.NamedSeen.{kind_of}
use Rattle.run_schedules.specs.Runs.Log.{pair_at}
use Rattle.play_linear.specs.Given.PlayedPlay.{Calling, State, call_for, outcome_of}
use Rattle.run_legal.specs.Given.ScenesStepping.{has_ended}
use Rattle.play_moves.specs.OneHistory.Answered.{ByNewest, IfElse, IsAnswered, IsItsEnd}
use Rattle.play_moves.specs.OneHistory.Lookups.{IsLookedUp, WasSo}
use Rattle.play_moves.specs.OneHistory.Order.{HaveGot}
use Rattle.play_moves.proofs.OneHistory.Order.{IsAside, IsOpen, NewestCall, Wants, newest_still, same_answers}

module _ {K V : Type 0} where
  -- what is noted as a pair is that pair, in this memory
  abbrev pub NotedAreThere : Known → Mem (Node K V) → List (Entry K V) → Type 0
  NotedAreThere known memory history =
      (b n : ℕ) → known.roles b ≡ role.Pair n → (key : K) × (value : V) × (pair_at (moment history).stored n ≡ Some (key, value)) × (value_at memory b ≡ Some (Pair key value))

  -- of the history nothing is lost
  abbrev pub GoesOn : List (Entry K V) → List (Entry K V) → Type 0
  GoesOn history then_ = (then_ ≡ history) ⊎ ((e : Entry K V) × (then_ ≡ e ∷ history))

module _ {K V : Type 0} (same : K → K → Bool) where
  -- what a lookup was answered was so
  abbrev pub WasSoFor : List (Entry K V) → Called K V → Outcome V → Type 0
  WasSoFor history one outcome = (key : K) (answer : Response V) → call_for one.wanted ≡ On (Get key) → outcome ≡ Answered answer → IsLookedUp same history one.caller one.map key answer

  -- what one on a key has told is what it was answered
  abbrev pub SaysSo : Known → Called K V → Outcome V → Type 0
  SaysSo known one outcome = (key : OneKey K V) → call_for one.wanted ≡ On key → (replies : List (Option ℕ × Reply V)) × HasOutcome known key replies one.told outcome

  -- a call that has ended was answered in the history
  abbrev pub HasAnswered : List (Entry K V) → Called K V → Type 0
  HasAnswered history one =
      has_ended one.told ≡ true
      → (known : Known) × (value : Option V) × IsAnswered same history one.caller one.map (call_for one.wanted) (outcome_of known (kind_of (call_for one.wanted)) value one.told)
      × WasSoFor history one (outcome_of known (kind_of (call_for one.wanted)) value one.told) × SaysSo known one (outcome_of known (kind_of (call_for one.wanted)) value one.told)

  -- the newest call of this caller is this one, on this map
  abbrev pub IsCalled : ℕ → ℕ → Call K V → List (Called K V) → Type 0
  IsCalled i m call [] = ⊥
  IsCalled i m call (one ∷ before) = IfElse (one.caller == i) ((one.map ≡ m) × (call_for one.wanted ≡ call)) (IsCalled i m call before)

  pub wants : (i m : ℕ) (call : Call K V) (calls : List (Called K V)) → IsCalled i m call calls → Wants i call calls
  wants i m call [] is = is
  wants i m call (one ∷ before) is = by (λ rest. wants i m call before rest) (one.caller == i) is
    where
      by : (IsCalled i m call before → Wants i call before) → (q : Bool) → IfElse q ((one.map ≡ m) × (call_for one.wanted ≡ call)) (IsCalled i m call before)
          → IfElse q (call_for one.wanted ≡ call) (Wants i call before)
      by rest true its = its.1
      by rest false its = rest its

  -- of the newest call, if it is this caller's
  abbrev pub IfNewest : ℕ → (Called K V → Type 0) → List (Called K V) → Type 0
  IfNewest i P [] = Unit {0}
  IfNewest i P (one ∷ before) = one.caller ≡ i → P one

  -- By this entry a call comes to its end, as this was told of it.
  abbrev pub EndsAs : ℕ → ℕ → Wanted K V → Progress (Node K V) → List (Entry K V) → Entry K V → Type 0
  EndsAs i m wanted told log e =
      (known : Known) × (value : Option V) × IsItsEnd same i m (call_for wanted) (outcome_of known (kind_of (call_for wanted)) value told) log e
      × ((key : K) (answer : Response V) → call_for wanted ≡ On (Get key) → outcome_of known (kind_of (call_for wanted)) value told ≡ Answered answer → WasSo same i m key answer log e)
      × ((key : OneKey K V) → call_for wanted ≡ On key → (replies : List (Option ℕ × Reply V)) × HasOutcome known key replies told (outcome_of known (kind_of (call_for wanted)) value told))

  -- and what is noted as a pair by then is that pair, in this memory
  abbrev pub EndsIn : Mem (Node K V) → ℕ → ℕ → Wanted K V → Progress (Node K V) → List (Entry K V) → Entry K V → Type 0
  EndsIn memory i m wanted told log e = (ends : EndsAs i m wanted told log e) × NotedAreThere ends.0 memory (e ∷ log)

  -- if it has ended
  abbrev pub HasEndedIn : List (Entry K V) → Mem (Node K V) → Called K V → Type 0
  HasEndedIn history memory one = has_ended one.told ≡ true → ByNewest one.caller (EndsIn memory one.caller one.map one.wanted one.told) history

  pub newest_on : (history then_ : List (Entry K V)) (i : ℕ) (memory : Mem (Node K V)) → IsAside i history then_ → (calls : List (Called K V)) → IfNewest i (HasEndedIn history memory) calls
      → IfNewest i (HasEndedIn then_ memory) calls
  newest_on history then_ i memory aside [] has = tt
  newest_on history then_ i memory aside (one ∷ before) has =
      λ of ended.
      newest_still one.caller (EndsIn memory one.caller one.map one.wanted one.told) history then_ (subst (λ (k : ℕ). IsAside k history then_) (sym of) aside) (has of ended)

  -- it is the newest step of its caller's calls
  abbrev pub HasEndedLast : List (Entry K V) → Called K V → Type 0
  HasEndedLast history one = has_ended one.told ≡ true → ByNewest one.caller (EndsAs one.caller one.map one.wanted one.told) history

  pub last_on : (history then_ : List (Entry K V)) (i : ℕ) → IsAside i history then_ → (calls : List (Called K V)) → NewestCall i (HasEndedLast history) calls → NewestCall i (HasEndedLast then_) calls
  last_on history then_ i aside [] was = was
  last_on history then_ i aside (one ∷ before) was = by (λ rest. last_on history then_ i aside before rest) (cases_eq one.caller i)
    where
      by : (NewestCall i (HasEndedLast history) before → NewestCall i (HasEndedLast then_) before) → (one.caller ≡ i) ⊎ (one.caller ≢ i)
          → IfElse (one.caller == i) (HasEndedLast then_ one) (NewestCall i (HasEndedLast then_) before)
      by rest (inl e) =
          let test = eq-eqb one.caller i e in
          let had = subst (λ (q : Bool). IfElse q (HasEndedLast history one) (NewestCall i (HasEndedLast history) before)) test was in
          subst (λ (q : Bool). IfElse q (HasEndedLast then_ one) (NewestCall i (HasEndedLast then_) before)) (sym test)
          (λ ended.
          newest_still one.caller (EndsAs one.caller one.map one.wanted one.told) history then_ (subst (λ (k : ℕ). IsAside k history then_) (sym e) aside) (had ended))
      by rest (inr ne) =
          let test = ne_eqb one.caller i ne in
          subst (λ (q : Bool). IfElse q (HasEndedLast then_ one) (NewestCall i (HasEndedLast then_) before)) (sym test)
          (rest (subst (λ (q : Bool). IfElse q (HasEndedLast history one) (NewestCall i (HasEndedLast history) before)) test was))

  one_more : (history then_ : List (Entry K V)) (one : Called K V) → GoesOn history then_ → HasAnswered history one → HasAnswered then_ one
  one_more history then_ one (inl is) has = subst (λ (x : List (Entry K V)). HasAnswered x one) (sym is) has
  one_more history then_ one (inr (e, is)) has =
      subst (λ (x : List (Entry K V)). HasAnswered x one) (sym is) (λ ended. let it = has ended in (it.0, it.1, inr it.2, (λ key answer call is. inr (it.3 key answer call is)), it.4))

  pub answered_on : (history then_ : List (Entry K V)) → GoesOn history then_ → (calls : List (Called K V)) → AllByRecursion (HasAnswered history) calls → AllByRecursion (HasAnswered then_) calls
  answered_on history then_ goes [] all = tt
  answered_on history then_ goes (one ∷ calls) all = (one_more history then_ one goes all.0, answered_on history then_ goes calls all.1)

  -- where the newest call of a caller has told this
  module _ (i : ℕ) (told : Progress (Node K V)) where
    abbrev Its : ℕ → Call K V → Called K V → Type 0
    Its m call one = (one.map ≡ m) × (call_for one.wanted ≡ call)

    pub called_on : (j m : ℕ) (call : Call K V) (calls : List (Called K V)) → IsCalled j m call calls → IsCalled j m call (has_progressed i told calls)
    called_on j m call [] is = is
    called_on j m call (one ∷ calls) is = by (λ rest. called_on j m call calls rest) (one.caller == i)
      where
        then_on : (IsCalled j m call calls → IsCalled j m call (has_progressed i told calls)) → (q : Bool) → IfElse q (Its m call one) (IsCalled j m call calls)
            → IfElse q (Its m call one) (IsCalled j m call (has_progressed i told calls))
        then_on rest true its = its
        then_on rest false its = rest its

        by : (IsCalled j m call calls → IsCalled j m call (has_progressed i told calls)) → (q : Bool)
            → IsCalled j m call (if q then record one { told = told } ∷ calls else one ∷ has_progressed i told calls)
        by rest true = is
        by rest false = then_on rest (one.caller == j) is

    pub answered_then : (history : List (Entry K V)) (m : ℕ) (call : Call K V)
        → ((one : Called K V) → one.caller ≡ i → one.map ≡ m → call_for one.wanted ≡ call → HasAnswered history (record one { told = told }))
        → (calls : List (Called K V)) → IsCalled i m call calls → AllByRecursion (HasAnswered history) calls → AllByRecursion (HasAnswered history) (has_progressed i told calls)
    answered_then history m call new [] is all = tt
    answered_then history m call new (one ∷ calls) is all = by (λ its. answered_then history m call new calls its all.1) (cases_eq one.caller i)
      where
        by : (IsCalled i m call calls → AllByRecursion (HasAnswered history) (has_progressed i told calls)) → (one.caller ≡ i) ⊎ (one.caller ≢ i)
            → AllByRecursion (HasAnswered history) (if one.caller == i then record one { told = told } ∷ calls else one ∷ has_progressed i told calls)
        by rest (inl e) =
            let test = eq-eqb one.caller i e in
            let its = subst (λ (q : Bool). IfElse q (Its m call one) (IsCalled i m call calls)) test is in
            subst (λ (q : Bool). AllByRecursion (HasAnswered history) (if q then record one { told = told } ∷ calls else one ∷ has_progressed i told calls)) (sym test) (new one e its.0 its.1, all.1)
        by rest (inr ne) =
            let test = ne_eqb one.caller i ne in
            let its = subst (λ (q : Bool). IfElse q (Its m call one) (IsCalled i m call calls)) test is in
            subst (λ (q : Bool). AllByRecursion (HasAnswered history) (if q then record one { told = told } ∷ calls else one ∷ has_progressed i told calls)) (sym test) (all.0, rest its)

  -- So a state tells of the calls of a seat.
  pub record Tells {S : Type 0} (seat : ℕ) (x : State K V S) (calls : List (Called K V)) (seen : Option (ℕ × Mem (Node K V))) : Type 0 where
    pub answered : AllByRecursion (HasAnswered x.history) calls
    pub found : (i : ℕ) (memory : Mem (Node K V)) → seat ≡ seat_of i → seen ≡ Some (i, memory) → IfNewest i (HasEndedIn x.history memory) calls
    pub under_way : (m i : ℕ) (c : Calling K V) → seat ≡ seat_of i → x.now.calls m i ≡ Some c → IsCalled i m c.call calls
    pub unanswered : (m i : ℕ) (c : Calling K V) → seat ≡ seat_of i → x.now.calls m i ≡ Some c → IsOpen i calls
    pub got : (i : ℕ) → seat ≡ seat_of i → HaveGot i calls (answers_of i x.history)
    pub last : (i : ℕ) → seat ≡ seat_of i → NewestCall i (HasEndedLast x.history) calls

  -- where nothing has changed of what is called
  pub quiet : {S : Type 0} (seat : ℕ) (x z : State K V S) (calls : List (Called K V)) (seen : Option (ℕ × Mem (Node K V))) → GoesOn x.history z.history
      → ((m i : ℕ) (c : Calling K V) → seat ≡ seat_of i → z.now.calls m i ≡ Some c → (d : Calling K V) × (x.now.calls m i ≡ Some d) × (d.call ≡ c.call))
      → ((i : ℕ) → seat ≡ seat_of i → IsAside i x.history z.history) → Tells seat x calls seen → Tells seat z calls seen
  quiet seat x z calls seen goes as_before aside tells = record {
    answered = answered_on x.history z.history goes calls tells.answered;
    found = λ i memory of is. newest_on x.history z.history i memory (aside i of) calls (tells.found i memory of is);
    last = λ i of. last_on x.history z.history i (aside i of) calls (tells.last i of);
    unanswered = λ m i c of has. let it = as_before m i c of has in tells.unanswered m i it.0 of it.1;
    got = λ i of. subst (HaveGot i calls) (sym (same_answers i x.history z.history (aside i of))) (tells.got i of);
    under_way = λ m i c of has. let it = as_before m i c of has in subst (λ (call : Call K V). IsCalled i m call calls) it.2 (tells.under_way m i it.0 of it.1);
  }
