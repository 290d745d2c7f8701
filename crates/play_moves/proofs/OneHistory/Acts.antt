-- Each act leaves it so that what is told of the calls of a seat is so in the history.
use Rattle.std.specs.Prelude.{◌≢◌, ◌==◌, ◌⊎◌, ◌++◌, Option, Some, None, if◌then◌else◌, is_ok, length}
use Rattle.std.proofs.Common.{◌≡◌, ℕ, Bool, true, false, List, [], ◌∷◌, inl, inr, refl, sym, subst, ap, ◌∙◌}
use Rattle.std.proofs.lemmas.Bool.{cases_eq, eq-eqb, ne_eqb}
use Rattle.run_schedules.specs.Given.SeizeWordsMem.{Mem}
use Rattle.run_legal.specs.Given.TablesDeclared.node.Node.{Node}
use Rattle.run_legal.specs.Given.TablesDeclared.setting.Setting.{Setting}
use Rattle.run_schedules.specs.Given.RawMachine.{machine_asked, machine_replied}
use Rattle.run_schedules.specs.Given.RawDeclared.machines.machine.Machine.{Machine}
use Rattle.run_schedules.specs.Given.RawDeclared.machines.progress.Progress.{Progress}
use Rattle.run_schedules.specs.Given.RawDeclared.machines.progress.Progress.TheVariants.{Done}
use Rattle.threads_rule.specs.Views.Listed.{Called, calls_then, has_progressed, seat_of}
use Rattle.threads_rule.specs.Views.Told.{untold}
use Rattle.run_schedules.specs.Schedules.After.{AtEachEvent}
use Rattle.run_schedules.specs.Schedules.Moment.{UnderWay}
use Rattle.run_schedules.specs.Schedules.Views.{call_of}
use Rattle.run_schedules.specs.declared.call.Call.{Call}
use Rattle.run_schedules.specs.declared.call.Call.TheVariants.{On}
use Rattle.run_schedules.specs.declared.call.OneKey.TheVariants.{Get}
use Rattle.run_schedules.specs.declared.call.Response.{Response as Answer'}
use Rattle.run_schedules.specs.declared.outcome.Outcome.{Outcome}
use Rattle.run_schedules.specs.declared.outcome.Outcome.TheVariants.{Answered}
use Rattle.threads_rule.specs.Given.ActsActs.{Act, Answer, Wanted, BeginsCall, StepsCall, TellsCall, AsksCall, StopsCall, BeginsMaking, StepsMaking, BeginsEnding, StepsEnding, BeginsRow, StepsRow}
use Rattle.play_linear.specs.Given.ActsDoings.{Does}
use Rattle.run_schedules.specs.Deeds.Deeds.{Ends, Entry, Leaves, Makes, MapComes, MapFails, MapGoes, Opens, Steps, moment, named}
use Rattle.run_schedules.specs.Deeds.History.{IsLinearizable, answered, answers_of, is_of}
use Rattle.run_legal.specs.Given.EffectsEffects.{effects_of, known_after}
use Rattle.run_legal.specs.Given.EffectsKnown.{Known}
use Rattle.run_legal.specs.Given.EffectsDeclared.acting.Acting.TheVariants as acting
use Rattle.run_legal.specs.Given.HistoriesEvents.{HasOutcome}
use Rattle.run_legal.specs.Given.HistoriesInEvent.{HasOutcomeSo}
use Rattle.run_legal.specs.Given.NamedSeen.{kind_of}
use Rattle.play_linear.specs.Given.PlayedPlay.{Calling, State, begun_call, call_asked, call_begun, call_for, call_stepped, call_stopped, call_replied, has_root, is_over, is_refusal, keeps, leaves_as, making_deed, outcome_of, pairs_for, registers_as, reply_for, row_deed, replied_call}
use Rattle.run_legal.specs.Given.ScenesReplying.{unless_stopped}
use Rattle.run_legal.specs.Given.ScenesStepping.{has_ended}
use Rattle.run_legal.specs.Given.EffectsDeclared.changed.Changed.{Changed}
use Rattle.run_legal.specs.Given.FinishesMaps.{with_call}
use Rattle.threads_rule.specs.Given.ResizeDeclared.new_map.NewMap.{NewMap}
use Rattle.seize_acts.specs.Given.SeizeDeclared.rows.leave.Leave.{Leave}
use Rattle.seize_acts.specs.Given.SeizeDeclared.rows.leave.Leaving.{Leaving}
use Rattle.seize_acts.specs.Given.SeizeDeclared.rows.leave.Leaving.TheVariants as leaves
use Rattle.seize_acts.specs.Given.SeizeDeclared.rows.register.Registering.{Registering}
use Rattle.seize_acts.specs.Given.SeizeDeclared.rows.register.Registering.TheVariants as registers
use Rattle.seize_acts.specs.Given.SeizeDeclared.states.TheConstants.{ACTIVE}
use Rattle.run_legal.specs.Given.ScenesDeclared.row.SlotRow.{SlotRow}
use Rattle.run_legal.specs.Given.ScenesDeclared.row.SlotRow.TheVariants as rows
use Rattle.seize_acts.specs.Given.SeizeWorld.{with_at}
use Rattle.run_legal.proofs.Given.CallersTogether.At.{at_same, at_other}
use Rattle.play_linear.proofs.Given.PlayedNoted.{CallsAreNoted, at_it, at_other_map, made_calls, one_call}
use Rattle.play_linear.proofs.Given.PlayedPlayedAs.{PlayedAs, ReclaimedAs}
use Rattle.play_moves.specs.OneHistory.Lookups.{WasSo}
use Rattle.play_moves.specs.OneHistory.Answered.{ByNewest, IfElse, IsItsEnd}
use Rattle.play_moves.specs.OneHistory.Order.{HaveGot, is_answer}
use Rattle.play_moves.proofs.OneHistory.Order.{IsAside, IsOpen, NewestCall, aside_if, either_of, got_then, open_then, others_got, others_newest, same_answers}
use Rattle.play_moves.proofs.OneHistory.Lookups.{so_then}
use Rattle.play_moves.proofs.OneHistory.Tells.{EndsAs, EndsIn, GoesOn, HasAnswered, HasEndedIn, HasEndedLast, IfNewest, IsCalled, NotedAreThere, SaysSo, Tells, answered_on, answered_then, called_on, last_on, quiet, wants}
use Rattle.play_moves.proofs.OneHistory.Words.{HasWords}
use Rattle.run_schedules.proofs.Given.General.{same_some}

-- calls of other callers
others : {X : Type 0} (calls : ℕ → ℕ → Option X) (m i : ℕ) (it : Option X) (on j : ℕ) → j ≢ i → with_call calls m i it on j ≡ calls on j
others {X} calls m i it on j ne = by (cases_eq on m)
  where
    by : (on ≡ m) ⊎ (on ≢ m) → with_call calls m i it on j ≡ calls on j
    by (inl e) = ap (λ (f : ℕ → Option X). f j) (at_same calls m (with_at (calls m) i it) on e) ∙ at_other (calls m) i it j ne ∙ ap (λ (k : ℕ). calls k j) (sym e)
    by (inr other) = at_other_map calls m i it on j other

-- maybe there is one entry more
if_more : {K V : Type 0} (q : Bool) (e : Entry K V) (history : List (Entry K V)) → GoesOn history (if q then e ∷ history else history)
if_more true e history = inr (e, refl)
if_more false e history = inl refl

-- of what goes on as long as it has not stopped, nothing else has come
unless_is : {X : Type 0} (q : Bool) (c d : X) → unless_stopped q c ≡ Some d → d ≡ c
unless_is true c d is = absurd (cc is)
unless_is false c d is = sym (same_some c d is)

if_is : {X : Type 0} (q : Bool) (c d : X) → (if q then None else Some c) ≡ Some d → d ≡ c
if_is true c d is = absurd (cc is)
if_is false c d is = sym (same_some c d is)

-- a call that goes on has no answer yet
unended : {K V : Type 0} (p : Progress (Node K V)) (c d : Calling K V) → (if has_ended p then None else Some c) ≡ Some d → is_answer p ≡ false
unended (Done answer) c d is = absurd (cc is)
unended _ c d is = refl

-- what is no step of a call is no step of this caller's
module _ (K V : Type 0) (j : ℕ) where
  making_silent : (map : ℕ) (before next : NewMap) → is_of {K = K} {V = V} j (making_deed map before next) ≡ false
  making_silent map before next =
      either_of j (has_root before.stands) _ _ (either_of j (has_root next.stands) (Makes map) (MapFails map) refl refl)
      (either_of j (has_root next.stands) (MapComes map next.setting.root next.setting.mode (pairs_for next.len)) (Makes map) refl refl)

  registers_silent : (stands : Registering) (s : ℕ) → is_of {K = K} {V = V} j (registers_as stands s) ≡ false
  registers_silent registers.Enter s = refl
  registers_silent _ s = refl

  leaves_silent : (c : Leave) (stands : Leaving) → is_of {K = K} {V = V} j (leaves_as c stands) ≡ false
  leaves_silent c leaves.Swaps = refl
  leaves_silent c leaves.Over = either_of j (c.becomes == ACTIVE) (Opens c.slot) (Leaves c.slot) refl refl
  leaves_silent c _ = refl

  row_silent : (row : SlotRow) → is_of {K = K} {V = V} j (row_deed row) ≡ false
  row_silent (rows.Registers c) = registers_silent c.stands c.slot
  row_silent (rows.Enters c) = refl
  row_silent (rows.Leaves c) = leaves_silent c c.stands
  row_silent (rows.Flushes c) = refl
  row_silent (rows.Frees c) = refl

-- what is noted as a pair is that pair, in this memory
abbrev pub PairsAreThere : {K V S : Type 0} → State K V S → Mem (Node K V) → Type 0
PairsAreThere x memory = NotedAreThere x.known memory x.history

module _ {K V S : Type 0} (same : K → K → Bool) (seat : ℕ) (x : State K V S) (calls : List (Called K V)) (seen : Option (ℕ × Mem (Node K V))) (tells : Tells same seat x calls seen) where
  -- each call was there, and is what it was
  abbrev AsBefore : State K V S → Type 0
  AsBefore z = (m i : ℕ) (c : Calling K V) → seat ≡ seat_of i → z.now.calls m i ≡ Some c → (d : Calling K V) × (x.now.calls m i ≡ Some d) × (d.call ≡ c.call)

  -- and no step of its calls was taken
  abbrev NoStep : State K V S → Type 0
  NoStep z = (i : ℕ) → seat ≡ seat_of i → IsAside i x.history z.history

  pub still : (z : State K V S) → GoesOn x.history z.history → AsBefore z → NoStep z → Tells same seat z calls seen
  still z goes as_before aside = quiet same seat x z calls seen goes as_before aside tells

  -- where one call goes on, or is there no more
  module _ (i m : ℕ) (c : Calling K V) (here : x.now.calls m i ≡ Some c) (next : Option (Calling K V)) (is : (d : Calling K V) → next ≡ Some d → d.call ≡ c.call) where
    pub one_goes : (on j : ℕ) (d : Calling K V) → with_call x.now.calls m i next on j ≡ Some d → (b : Calling K V) × (x.now.calls on j ≡ Some b) × (b.call ≡ d.call)
    one_goes on j d has = by (cases_eq j i) (cases_eq on m)
      where
        by : (j ≡ i) ⊎ (j ≢ i) → (on ≡ m) ⊎ (on ≢ m) → (b : Calling K V) × (x.now.calls on j ≡ Some b) × (b.call ≡ d.call)
        by (inr ne) at = (d, sym (others x.now.calls m i next on j ne) ∙ has, refl)
        by (inl e) (inr ne) = (d, sym (at_other_map x.now.calls m i next on j ne) ∙ has, refl)
        by (inl e) (inl f) =
            (c, ap (λ (k : ℕ). x.now.calls k j) f ∙ ap (x.now.calls m) e ∙ here, sym (is d (sym (at_it x.now.calls m i next on j f e) ∙ has)))

  -- the step of a call tells how far it has come
  module _ (noted : CallsAreNoted x) (i m : ℕ) (c : Calling K V) (here : x.now.calls m i ≡ Some c) (changed : Changed) (memory : Mem (Node K V)) (machine : Machine K V K)
      (progress : Progress (Node K V)) where
    abbrev stepped : State K V S
    stepped = call_stepped i m c changed x (memory, (machine, progress))

    -- a lookup that is under way there owes nothing
    abbrev OwesNone : Type 0
    OwesNone = (u : UnderWay K V) → call_of (named i) (moment x.history) ≡ Some u → (key : K) → u.call ≡ On (Get key) → u.due ≡ None

    abbrev known : Known
    known = known_after (acting.Call i m) changed x.known

    abbrev entry : Entry K V
    entry = record { deed = Steps i; outcome = outcome_of known (kind_of c.call) c.value progress; effects = effects_of (acting.Call i m) x.known changed; refused = is_refusal changed }

    its_own : (there : UnderWay K V) × (call_of (named i) (moment x.history) ≡ Some there) × (there.map ≡ m) × (there.call ≡ c.call)
    its_own = noted m i c here

    module _ (right : AtEachEvent (IsLinearizable same) stepped.history) (free : OwesNone) (words : HasWords stepped) where
      -- of the call that this is, by its caller, on its map,
      module _ (one : Called K V) (caller_is : one.caller ≡ i) (map_is : one.map ≡ m) (call_is : call_for one.wanted ≡ c.call) where
        outcome_is : outcome_of known (kind_of c.call) c.value progress ≡ outcome_of known (kind_of (call_for one.wanted)) c.value progress
        outcome_is = ap (λ (call : Call K V). outcome_of known (kind_of call) c.value progress) (sym call_is)

        -- it says what it was told,
        says : SaysSo same known (record one { told = progress }) (outcome_of known (kind_of (call_for one.wanted)) c.value progress)
        says key is = (
          its_own.0.replies,
          subst (λ (o : Outcome V). HasOutcome known key its_own.0.replies progress o) outcome_is
              (subst (λ (call : Call K V). HasOutcomeSo known call its_own.0.replies progress (outcome_of known (kind_of c.call) c.value progress)) (its_own.3 ∙ sym call_is ∙ is)
              (words i progress x.told entry x.history its_own.0 refl refl refl its_own.1)),
        )

        -- what it has looked up was so,
        was_so : (key : K) (answer : Answer' V) → call_for one.wanted ≡ On (Get key) → outcome_of known (kind_of (call_for one.wanted)) c.value progress ≡ Answered answer
            → WasSo same one.caller one.map key answer x.history entry
        was_so key answer call is =
            let wanted = its_own.3 ∙ sym call_is ∙ call in record {
              deed = ap (λ (k : ℕ). Steps k) (sym caller_is);
              comes = outcome_is ∙ is;
              there = its_own.0;
              here = subst (λ (k : ℕ). call_of (named k) (moment x.history) ≡ Some its_own.0) (sym caller_is) its_own.1;
              on = its_own.2 ∙ sym map_is;
              what = wanted;
              so = so_then same i answer entry.effects entry.refused x.history its_own.0 its_own.1 key wanted (free its_own.0 its_own.1 key wanted)
                  (subst (λ (o : Outcome V). IsLinearizable same x.history (record { deed = Steps i; outcome = o; effects = entry.effects; refused = entry.refused })) (outcome_is ∙ is) right.0) one.map
                  (its_own.2 ∙ sym map_is);
            }

        -- it is the newest step of its caller's calls.
        by_it : (So : List (Entry K V) → Entry K V → Type 0) → So x.history entry → ByNewest one.caller So stepped.history
        by_it So so = subst (λ (q : Bool). IfElse q (So x.history entry) (ByNewest one.caller So x.history)) (sym (eq-eqb one.caller i caller_is)) so

        -- By its entry it was answered, if it has ended.
        its_end : IsItsEnd same one.caller one.map (call_for one.wanted) (outcome_of known (kind_of (call_for one.wanted)) c.value progress) x.history entry
        its_end = record {
          deed = ap (λ (k : ℕ). Steps k) (sym caller_is);
          comes = outcome_is;
          there = its_own.0;
          here = subst (λ (k : ℕ). call_of (named k) (moment x.history) ≡ Some its_own.0) (sym caller_is) its_own.1;
          on = its_own.2 ∙ sym map_is;
          what = its_own.3 ∙ sym call_is;
          right = right.0;
        }

        answers : HasAnswered same stepped.history (record one { told = progress })
        answers ended = (known, c.value, inl its_end, (λ key answer call is. inl (was_so key answer call is)), says)

        ends_last : HasEndedLast same stepped.history (record one { told = progress })
        ends_last ended = by_it (EndsAs same one.caller one.map one.wanted progress) (known, c.value, its_end, (λ key answer call is. was_so key answer call is), says)

        ends_in : (memory : Mem (Node K V)) → PairsAreThere stepped memory → HasEndedIn same stepped.history memory (record one { told = progress })
        ends_in memory pairs ended =
            by_it (EndsIn same memory one.caller one.map one.wanted progress) ((known, c.value, its_end, (λ key answer call is. was_so key answer call is), says), pairs)

      before : (on j : ℕ) (d : Calling K V) → stepped.now.calls on j ≡ Some d → (b : Calling K V) × (x.now.calls on j ≡ Some b) × (b.call ≡ d.call)
      before on j d has =
          one_goes i m c here (if has_ended progress then None else Some (record c { machine = machine; value = keeps (kind_of c.call) progress c.value }))
          (λ e is. ap (λ (v : Calling K V). v.call) (if_is (has_ended progress) (record c { machine = machine; value = keeps (kind_of c.call) progress c.value }) e is)) on j d has

      -- the pairs that were noted as the newest call ended
      abbrev NewestAs : Mem (Node K V) → Called K V → List (Called K V) → Bool → Type 0
      NewestAs memory one earlier q =
          IfNewest same i (HasEndedIn same stepped.history memory) (if q then record one { told = progress } ∷ earlier else one ∷ has_progressed i progress earlier)

      newest_found : (memory : Mem (Node K V)) → PairsAreThere stepped memory → (calls : List (Called K V)) → IsCalled same i m c.call calls
          → IfNewest same i (HasEndedIn same stepped.history memory) (has_progressed i progress calls)
      newest_found memory pairs [] is = tt
      newest_found memory pairs (one ∷ earlier) is = by (cases_eq one.caller i)
        where
          by : (one.caller ≡ i) ⊎ (one.caller ≢ i) → NewestAs memory one earlier (one.caller == i)
          by (inl e) =
              let test = eq-eqb one.caller i e in
              let its_own = subst (λ (q : Bool). IfElse q ((one.map ≡ m) × (call_for one.wanted ≡ c.call)) (IsCalled same i m c.call earlier)) test is in
              subst (NewestAs memory one earlier) (sym test) (λ of. ends_in one e its_own.0 its_own.1 memory pairs)
          by (inr ne) = subst (NewestAs memory one earlier) (sym (ne_eqb one.caller i ne)) (λ of. absurd (ne of))

      -- of a call of the caller that goes on nothing was answered
      opens : (on j : ℕ) (d : Calling K V) → stepped.now.calls on j ≡ Some d → seat ≡ seat_of j → (j ≡ i) ⊎ (j ≢ i) → (on ≡ m) ⊎ (on ≢ m) → IsOpen j (has_progressed i progress calls)
      opens on j d has of (inr ne) on_map = let was = before on j d has in others_newest i j ne progress (λ one. is_answer one.told ≡ false) calls (tells.unanswered on j was.0 of was.1)
      opens on j d has of (inl e) (inl f) =
          subst (λ (k : ℕ). IsOpen k (has_progressed i progress calls)) (sym e)
          (open_then i progress
          (unended progress (record c { machine = machine; value = keeps (kind_of c.call) progress c.value }) d
          (sym (at_it x.now.calls m i (if has_ended progress then None else Some (record c { machine = machine; value = keeps (kind_of c.call) progress c.value })) on j f e) ∙ has)) calls
          (tells.unanswered m i c (of ∙ ap seat_of e) here))
      opens on j d has of (inl e) (inr ne) =
          let was : x.now.calls on i ≡ Some d =
          ap (x.now.calls on) (sym e) ∙ sym (at_other_map x.now.calls m i (if has_ended progress then None else Some (record c { machine = machine; value = keeps (kind_of c.call) progress c.value })) on j ne) ∙ has in
          absurd (ne (sym (one_call (moment x.history) m on i c.call d.call (noted m i c here) (noted on i d was))))

      -- and the answers are those of before, and this one
      gets : (j : ℕ) → seat ≡ seat_of j → (j ≡ i) ⊎ (j ≢ i) → HaveGot j (has_progressed i progress calls) (answers_of j stepped.history)
      gets j of (inr ne) =
          subst (HaveGot j (has_progressed i progress calls)) (sym (same_answers j x.history stepped.history (inr (entry, refl, ne_eqb j i ne)))) (others_got i j ne progress calls (answers_of j x.history) (tells.got j of))
      gets j of (inl e) =
          subst (λ (k : ℕ). HaveGot k (has_progressed i progress calls) (answers_of k stepped.history)) (sym e)
          (subst (HaveGot i (has_progressed i progress calls)) (sym new_answers)
          (got_then i its_own.0 known c.value c.call its_own.3 progress calls (answers_of i x.history) (tells.unanswered m i c (of ∙ ap seat_of e) here) (wants same i m c.call calls (tells.under_way m i c (of ∙ ap seat_of e) here))
          (tells.got i (of ∙ ap seat_of e))))
        where
          new_answers : answers_of i stepped.history ≡ answered (Some its_own.0) entry.outcome ++ answers_of i x.history
          new_answers =
              ap (λ (q : Bool). if q then answered (call_of (named i) (moment x.history)) entry.outcome ++ answers_of i x.history else answers_of i x.history) (eq-eqb i i refl)
              ∙ ap (λ (o : Option (UnderWay K V)). answered o entry.outcome ++ answers_of i x.history) its_own.1

      -- the newest call of a caller, if it has ended, has ended last
      last_then : (calls : List (Called K V)) → IsCalled same i m c.call calls → NewestCall i (HasEndedLast same stepped.history) (has_progressed i progress calls)
      last_then [] is = absurd is
      last_then (one ∷ earlier) is = by (λ rest. last_then earlier rest) (cases_eq one.caller i)
        where
          by : (IsCalled same i m c.call earlier → NewestCall i (HasEndedLast same stepped.history) (has_progressed i progress earlier)) → (one.caller ≡ i) ⊎ (one.caller ≢ i)
              → NewestCall i (HasEndedLast same stepped.history) (if one.caller == i then record one { told = progress } ∷ earlier else one ∷ has_progressed i progress earlier)
          by rest (inl e) =
              let test = eq-eqb one.caller i e in
              let its_call = subst (λ (q : Bool). IfElse q ((one.map ≡ m) × (call_for one.wanted ≡ c.call)) (IsCalled same i m c.call earlier)) test is in
              subst (λ (q : Bool). NewestCall i (HasEndedLast same stepped.history) (if q then record one { told = progress } ∷ earlier else one ∷ has_progressed i progress earlier)) (sym test)
              (subst (λ (q : Bool). IfElse q (HasEndedLast same stepped.history (record one { told = progress })) (NewestCall i (HasEndedLast same stepped.history) earlier)) (sym test)
              (ends_last one e its_call.0 its_call.1))
          by rest (inr ne) =
              let test = ne_eqb one.caller i ne in
              let its_call = subst (λ (q : Bool). IfElse q ((one.map ≡ m) × (call_for one.wanted ≡ c.call)) (IsCalled same i m c.call earlier)) test is in
              subst (λ (q : Bool). NewestCall i (HasEndedLast same stepped.history) (if q then record one { told = progress } ∷ earlier else one ∷ has_progressed i progress earlier)) (sym test)
              (subst (λ (q : Bool). IfElse q (HasEndedLast same stepped.history one) (NewestCall i (HasEndedLast same stepped.history) (has_progressed i progress earlier))) (sym test) (rest its_call))

      lasts : (j : ℕ) → seat ≡ seat_of j → (j ≡ i) ⊎ (j ≢ i) → NewestCall j (HasEndedLast same stepped.history) (has_progressed i progress calls)
      lasts j of (inl e) =
          subst (λ (k : ℕ). NewestCall k (HasEndedLast same stepped.history) (has_progressed i progress calls)) (sym e) (last_then calls (tells.under_way m i c (of ∙ ap seat_of e) here))
      lasts j of (inr ne) =
          others_newest i j ne progress (HasEndedLast same stepped.history) calls (last_on same x.history stepped.history j (inr (entry, refl, ne_eqb j i ne)) calls (tells.last j of))

      -- whether it is the seat's or another one's
      abbrev SteppedBy : Mem (Node K V) → Bool → Type 0
      SteppedBy memory q = Tells same seat stepped (if q then has_progressed i progress calls else calls) (if q then Some (i, memory) else seen)

      pub steps_tell : (memory : Mem (Node K V)) → PairsAreThere stepped memory
          → Tells same seat stepped (if seat == seat_of i then has_progressed i progress calls else calls) (if seat == seat_of i then Some (i, memory) else seen)
      steps_tell memory pairs = by (cases_eq seat (seat_of i))
        where
          goes : GoesOn x.history stepped.history
          goes = inr (_, refl)

          by : (seat ≡ seat_of i) ⊎ (seat ≢ seat_of i) → SteppedBy memory (seat == seat_of i)
          by (inl e) =
              subst (SteppedBy memory) (sym (eq-eqb seat (seat_of i) e)) (record {
                answered = answered_then same i progress stepped.history m c.call (λ one caller_is map_is call_is. answers one caller_is map_is call_is) calls (tells.under_way m i c e here) (answered_on same x.history stepped.history goes calls tells.answered);
                found = λ j then_there of is.
                    let both = same_some (i, memory) (j, then_there) is in
                    let one : i ≡ j = ap (λ (p : ℕ × Mem (Node K V)). p.0) both in
                    let there : memory ≡ then_there = ap (λ (p : ℕ × Mem (Node K V)). p.1) both in
                    subst (λ (k : ℕ). IfNewest same k (HasEndedIn same stepped.history then_there) (has_progressed i progress calls)) one
                    (subst (λ (n : Mem (Node K V)). IfNewest same i (HasEndedIn same stepped.history n) (has_progressed i progress calls)) there (newest_found memory pairs calls (tells.under_way m i c e here)));
                unanswered = λ on j d of has. opens on j d has of (cases_eq j i) (cases_eq on m);
                got = λ j of. gets j of (cases_eq j i);
                last = λ j of. lasts j of (cases_eq j i);
                under_way = λ on j d of has.
                    let was = before on j d has in
                    called_on same i progress j on d.call calls (subst (λ (call : Call K V). IsCalled same j on call calls) was.2 (tells.under_way on j was.0 of was.1));
              })
          by (inr ne) =
              subst (SteppedBy memory) (sym (ne_eqb seat (seat_of i) ne))
              (still stepped goes (λ on j d of has. before on j d has) (λ j of. inr (entry, refl, ne_eqb j i (λ f. ne (of ∙ ap seat_of f)))))

  -- a call begins
  module _ (i m : ℕ) (wanted : Wanted K V) (hash : S → K → ℕ) (at : Setting × S) where
    abbrev begins : State K V S
    begins = call_begun i m hash (call_for wanted) x at

    abbrev call : Calling K V
    call = begun_call i m hash (call_for wanted) at

    abbrev one : Called K V
    one = record { caller = i; map = m; wanted = wanted; told = untold }

    module _ (noted : CallsAreNoted begins) where
      -- the call of its caller is this one
      its : (on : ℕ) (d : Calling K V) → with_call x.now.calls m i (Some call) on i ≡ Some d → (m ≡ on) × (call_for wanted ≡ d.call)
      its on d has =
          let same_map = one_call (moment begins.history) m on i call.call d.call (noted m i call (at_it x.now.calls m i (Some call) m i refl refl)) (noted on i d has) in
          (same_map, ap (λ (v : Calling K V). v.call) (same_some call d (sym (at_it x.now.calls m i (Some call) on i (sym same_map) refl) ∙ has)))

      goes_then : GoesOn x.history begins.history
      goes_then = inr (_, refl)

      abbrev BegunBy : Bool → Type 0
      BegunBy q = Tells same seat begins (if q then one ∷ calls else calls) seen

      pub begins_tell : Tells same seat begins (if seat == seat_of i then one ∷ calls else calls) seen
      begins_tell = by (cases_eq seat (seat_of i))
        where
          called : (on j : ℕ) (d : Calling K V) → seat ≡ seat_of j → with_call x.now.calls m i (Some call) on j ≡ Some d → (j ≡ i) ⊎ (j ≢ i)
              → IfElse (i == j) ((m ≡ on) × (call_for wanted ≡ d.call)) (IsCalled same j on d.call calls)
          called on j d of has (inl e) =
              subst (λ (q : Bool). IfElse q ((m ≡ on) × (call_for wanted ≡ d.call)) (IsCalled same j on d.call calls)) (sym (eq-eqb i j (sym e)))
              (its on d (sym (ap (with_call x.now.calls m i (Some call) on) e) ∙ has))
          called on j d of has (inr ne) =
              subst (λ (q : Bool). IfElse q ((m ≡ on) × (call_for wanted ≡ d.call)) (IsCalled same j on d.call calls)) (sym (ne_eqb i j (λ e. ne (sym e))))
              (tells.under_way on j d of (sym (others x.now.calls m i (Some call) on j ne) ∙ has))

          opened : (on j : ℕ) (d : Calling K V) → seat ≡ seat_of j → with_call x.now.calls m i (Some call) on j ≡ Some d → (j ≡ i) ⊎ (j ≢ i) → IsOpen j (one ∷ calls)
          opened on j d of has (inl e) = subst (λ (q : Bool). IfElse q (is_answer one.told ≡ false) (IsOpen j calls)) (sym (eq-eqb i j (sym e))) refl
          opened on j d of has (inr ne) =
              subst (λ (q : Bool). IfElse q (is_answer one.told ≡ false) (IsOpen j calls)) (sym (ne_eqb i j (λ e. ne (sym e))))
              (tells.unanswered on j d of (sym (others x.now.calls m i (Some call) on j ne) ∙ has))

          lasts : (j : ℕ) → seat ≡ seat_of j → (j ≡ i) ⊎ (j ≢ i) → NewestCall j (HasEndedLast same begins.history) (one ∷ calls)
          lasts j of (inl e) =
              subst (λ (q : Bool). IfElse q (HasEndedLast same begins.history one) (NewestCall j (HasEndedLast same begins.history) calls)) (sym (eq-eqb i j (sym e))) (λ ended. absurd (cc ended))
          lasts j of (inr ne) =
              subst (λ (q : Bool). IfElse q (HasEndedLast same begins.history one) (NewestCall j (HasEndedLast same begins.history) calls)) (sym (ne_eqb i j (λ e. ne (sym e))))
              (last_on same x.history begins.history j (inr (_, refl, refl)) calls (tells.last j of))

          by : (seat ≡ seat_of i) ⊎ (seat ≢ seat_of i) → BegunBy (seat == seat_of i)
          by (inl e) =
              subst BegunBy (sym (eq-eqb seat (seat_of i) e)) (record {
                answered = ((λ ended. absurd (cc ended)), answered_on same x.history begins.history goes_then calls tells.answered);
                found = λ j memory its_seat is. (λ of ended. absurd (cc ended));
                last = λ j of. lasts j of (cases_eq j i);
                unanswered = λ on j d of has. opened on j d of has (cases_eq j i);
                got = λ j of. tells.got j of;
                under_way = λ on j d of has. called on j d of has (cases_eq j i);
              })
          by (inr ne) =
              subst BegunBy (sym (ne_eqb seat (seat_of i) ne))
              (still begins goes_then (λ on j d of has. (d, sym (others x.now.calls m i (Some call) on j (λ e. ne (of ∙ ap seat_of e))) ∙ has, refl)) (λ j of. inr (_, refl, refl)))

-- any act but the step of a call
abbrev pub IsOther : {K V S : Type 0} → Act K V S → Type 0
IsOther (StepsCall i m g) = ⊥
IsOther act = Unit {0}

module _ {K V S : Type 0} (same : K → K → Bool) (hash : S → K → ℕ) (batch_size roots : ℕ) (aborts : ℕ → V) (seat : ℕ) (x y : State K V S) (calls : List (Called K V))
    (seen : Option (ℕ × Mem (Node K V))) (tells : Tells same seat x calls seen) where
  abbrev Then : Act K V S → Answer K V → Type 0
  Then act told = Tells same seat y (calls_then seat (Does act) told calls) seen

  -- where nothing has changed of what is called
  so_still : (z : State K V S) → y ≡ z → GoesOn x.history z.history → ((m i : ℕ) (c : Calling K V) → z.now.calls m i ≡ Some c → (d : Calling K V) × (x.now.calls m i ≡ Some d) × (d.call ≡ c.call))
      → NoStep same seat x calls seen tells z → Tells same seat y calls seen
  so_still z is goes as_before aside = subst (λ (v : State K V S). Tells same seat v calls seen) (sym is) (still same seat x calls seen tells z goes (λ m i c of has. as_before m i c has) aside)

  as_it_was : (m i : ℕ) (c : Calling K V) → x.now.calls m i ≡ Some c → (d : Calling K V) × (x.now.calls m i ≡ Some d) × (d.call ≡ c.call)
  as_it_was m i c has = (c, has, refl)

  pub acts_tell : CallsAreNoted y → (act : Act K V S) → IsOther act → (told : Answer K V) → PlayedAs same hash batch_size roots aborts x y act → Then act told
  acts_tell noted (BeginsCall i m wanted) other told (at, there, is) =
      subst (λ (v : State K V S). Tells same seat v (calls_then {S = S} seat (Does (BeginsCall i m wanted)) told calls) seen) (sym is)
      (begins_tell same seat x calls seen tells i m wanted hash at (subst CallsAreNoted is noted))
  acts_tell noted (StepsCall i m g) other told played = absurd other
  acts_tell noted (TellsCall i m reply) other told (c, here, is) =
      so_still (call_replied i m aborts reply x c) is (if_more (is_ok (machine_replied c.machine reply).1) _ x.history)
      (λ on j d has.
      one_goes same seat x calls seen tells i m c here (Some (replied_call (machine_replied c.machine reply) (reply_for (aborts (length x.told)) reply) c))
      (λ e some. ap (λ (v : Calling K V). v.call) (sym (same_some (replied_call (machine_replied c.machine reply) (reply_for (aborts (length x.told)) reply) c) e some))) on j d has)
      (λ j of. aside_if j (is_ok (machine_replied c.machine reply).1) _ x.history refl)
  acts_tell noted (AsksCall i m) other told (c, here, is) =
      so_still (call_asked i m x c) is (inl refl)
      (λ on j d has.
      one_goes same seat x calls seen tells i m c here (Some (record c { machine = (machine_asked c.machine).0 }))
      (λ e some. ap (λ (v : Calling K V). v.call) (sym (same_some (record c { machine = (machine_asked c.machine).0 }) e some))) on j d has) (λ j of. inl refl)
  acts_tell noted (StopsCall i m) other told (c, here, is) =
      so_still (call_stopped i m x c) is (if_more (machine_asked c.machine).1 _ x.history)
      (λ on j d has.
      one_goes same seat x calls seen tells i m c here (unless_stopped (machine_asked c.machine).1 c)
      (λ e some. ap (λ (v : Calling K V). v.call) (unless_is (machine_asked c.machine).1 c e some)) on j d has) (λ j of. aside_if j (machine_asked c.machine).1 _ x.history refl)
  acts_tell noted (BeginsMaking i map hasher given places) other told is = so_still _ is (inl refl) as_it_was (λ j of. inl refl)
  acts_tell noted (StepsMaking i g) other told (b, here, end, came, is) =
      so_still _ is (inr (_, refl))
      (λ m j c has. (c, sym (made_calls i b end.1.0 end.1.1 (record x.now { memory = end.0 }) m j) ∙ has, refl))
      (λ j of. inr (_, refl, (making_silent K V j b.map b.machine end.1.0)))
  acts_tell noted (BeginsEnding i m) other told (at, there, is) = so_still _ is (inl refl) as_it_was (λ j of. inl refl)
  acts_tell noted (StepsEnding i g) other told (f, here, end, came, is) =
      so_still _ is (inr (_, refl)) as_it_was (λ j of. inr (_, refl, (either_of j (is_over end.1.1) (MapGoes f.map) (Ends f.map) refl refl)))
  acts_tell noted (BeginsRow i request) other told (called, there, is) = so_still _ is (inl refl) as_it_was (λ j of. inl refl)
  acts_tell noted (StepsRow i g) other told (row, here, end, came, is) = so_still _ is (inr (_, refl)) as_it_was (λ j of. inr (_, refl, (row_silent K V j row)))

  -- and who reclaims all
  pub reclaiming_tells : (g : _) → ReclaimedAs same hash batch_size roots aborts x y g → Tells same seat y calls seen
  reclaiming_tells g (c, here, end, came, is) = so_still _ is (inr (_, refl)) as_it_was (λ j of. inr (_, refl, refl))

  pub nothing_tells : y.history ≡ x.history → y.now.calls ≡ x.now.calls → Tells same seat y calls seen
  nothing_tells history_is calls_are =
      still same seat x calls seen tells y (inl history_is) (λ m i c of has. (c, sym (ap (λ (f : ℕ → ℕ → Option (Calling K V)). f m i) calls_are) ∙ has, refl)) (λ j of. inl history_is)
