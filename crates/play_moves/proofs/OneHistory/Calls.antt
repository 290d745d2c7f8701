-- What a seat may say of its newest call.
use Rattle.std.specs.Prelude.{◌≡◌, ◌<◌, ◌^◌, Option, Some, None, is_some, if◌then◌else◌}
use Rattle.std.specs.List.{AllByRecursion}
use Rattle.std.proofs.lemmas.Bool.{eq-eqb}
use Rattle.std.proofs.Common.{ℕ, Bool, true, false, List, [], ◌∷◌, inl, inr, refl, sym, subst, ap, ◌∙◌}
use Rattle.threads_rule.proofs.Views.Leaves.{section_place}
use Rattle.threads_rule.specs.Given.SeizeSeatsState.{State, view_of}
use Rattle.threads_rule.specs.Given.SeizeViewsDeclared.view.Fixed.{Fixed}
use Rattle.run_schedules.specs.Given.SeizeWordsDeclared.fault.Fault.{Fault}
use Rattle.run_schedules.specs.Given.SeizeWordsWord.{block_in}
use Rattle.run_legal.specs.Given.TablesDeclared.node.Node.{Node}
use Rattle.run_legal.specs.Given.TablesDeclared.node.Node.TheVariants.{Pair}
use Rattle.run_schedules.specs.Given.RawDeclared.machines.answer.KeyAnswer.TheVariants as says
use Rattle.run_schedules.specs.Given.RawDeclared.machines.progress.Answer.{Answer as Said}
use Rattle.run_schedules.specs.Given.RawDeclared.machines.progress.Answer.TheVariants as said
use Rattle.run_schedules.specs.Given.RawDeclared.machines.progress.Progress.{Progress}
use Rattle.run_schedules.specs.Given.RawDeclared.machines.progress.Progress.TheVariants as progress
use Rattle.threads_rule.specs.Views.Begun.{machine_for}
use Rattle.threads_rule.specs.Views.Listed.{Called, IsNewest, calls_of, plain, seat_of, seen_of}
use Rattle.threads_rule.specs.Views.Looks.{shown_in}
use Rattle.threads_rule.specs.Views.Rule.{MapsWorld, AreRuns, Holds, IsRun, IsSlot, caller_at, acts_in, section_of}
use Rattle.threads_rule.specs.declared.view.Map.{Map}
use Rattle.threads_rule.specs.declared.view.BegunCall.{BegunCall}
use Rattle.threads_rule.specs.declared.view.View.{View}
use Rattle.threads_rule.proofs.Views.Listed.{its_seat}
use Rattle.run_schedules.specs.Schedules.Sequential.{looked}
use Rattle.run_schedules.specs.declared.call.Response.TheVariants as answers
use Rattle.run_schedules.specs.declared.call.Call.TheVariants.{On}
use Rattle.run_schedules.specs.declared.call.OneKey.TheVariants as one_key
use Rattle.run_schedules.specs.declared.call.Reply.{Reply}
use Rattle.run_schedules.specs.declared.outcome.Outcome.{Outcome}
use Rattle.run_schedules.specs.declared.outcome.Outcome.TheVariants.{Answered, Refused}
use Rattle.run_legal.specs.Given.ScenesScene.{slot_of}
use Rattle.play_linear.specs.Given.ActsLists.{nothing_done}
use Rattle.run_legal.specs.Given.NamedSeen.{kind_of}
use Rattle.run_legal.specs.Given.ScenesStepping.{has_ended}
use Rattle.run_schedules.specs.Given.SeizeWordsMem.{Mem, value_at}
use Rattle.threads_rule.specs.Errands.Calling.{is_put, pair_there}
use Rattle.threads_rule.specs.Given.ActsActs.{Wanted, Get, Insert, TryToInsert, Remove}
use Rattle.run_schedules.specs.Deeds.Deeds.{Entry, moment}
use Rattle.run_schedules.specs.Runs.Log.{pair_at}
use Rattle.run_legal.specs.Given.EffectsKnown.{Known}
use Rattle.run_legal.specs.Given.EffectsDeclared.role.Role.TheVariants as role
use Rattle.play_linear.specs.Given.PlayedPlay.{State as Played, call_for, outcome_of}
use Rattle.run_legal.specs.Given.HistoriesEvents.{HasOutcome}
use Rattle.play_moves.specs.OneHistory.Answered.{ByNewest, IfElse, IsItsEnd}
use Rattle.play_moves.specs.OneHistory.Calls.{FoundNone, FoundValue, HasInserted, HasLooked, HasOne, HasRefused, HasRemoved, HasRemovedPair, HasTried, ItsCall, WasNamed, WasThere}
use Rattle.play_moves.specs.OneHistory.Lookups.{WasHad, WasSo}
use Rattle.play_moves.proofs.OneHistory.Answered.{IsIts, calls_its, runs, same_caller, same_map, same_wanted, such, tell}
use Rattle.play_moves.proofs.OneHistory.Legal.{histories_are_legal}
use Rattle.play_moves.proofs.OneHistory.Order.{NewestCall, newest_as}
use Rattle.play_moves.proofs.OneHistory.Tells.{EndsAs, EndsIn, HasEndedIn, HasEndedLast, IfNewest, NotedAreThere}
use Rattle.run_schedules.proofs.Given.General.{same_some}

-- What a call on one key has come to, by what it was told of it.
module _ {K V : Type 0} (known : Known) (replies : List (Option ℕ × Reply V)) where
  -- a storing: it tells whether a pair was replaced
  inserted : (key : K) (value : V) (is_replaced : Said → Bool) → ((old new : ℕ) → is_replaced (said.Key (says.Replaced old new)) ≡ true) → ((new : ℕ) → is_replaced (said.Key (says.Stored new)) ≡ false)
      → (it : Said) (o : Outcome V) → HasOutcome known (one_key.Insert key value) replies (progress.Done it) o → (before : Option ℕ) × (is_some before ≡ is_replaced it) × (o ≡ Answered (looked before))
  inserted key value is_replaced if_so if_not (said.Key (says.Stored new)) (Answered a) (inr (n, names, v, means)) = (None, sym (if_not new), ap Answered (let one : answers.Absent ≡ a = cc means in sym one))
  inserted key value is_replaced if_so if_not (said.Key (says.Replaced old new)) (Answered a) (inr (o, n, was, names, v, means)) =
      (Some o, sym (if_so old new), ap Answered (let one : answers.Found o ≡ a = cc means in sym one))
  inserted key value is_replaced if_so if_not (said.Key (says.Removed word)) (Answered a) (inr (o, names, means)) = absurd (let is = means 0 in cc is)
  inserted key value is_replaced if_so if_not (said.Key says.Absent) (Answered a) (inl means) = absurd (let is = means 0 in cc is)
  inserted key value is_replaced if_so if_not (said.Key (says.Found word)) (Answered a) (inl (n, names, means)) = absurd (let is = means 0 in cc is)
  inserted key value is_replaced if_so if_not (said.Key says.Absent) (Answered a) (inr done) = absurd done
  inserted key value is_replaced if_so if_not (said.Key (says.Found word)) (Answered a) (inr done) = absurd done
  inserted key value is_replaced if_so if_not (said.Key (says.Stored new)) (Answered a) (inl so) = absurd so
  inserted key value is_replaced if_so if_not (said.Key (says.Replaced old new)) (Answered a) (inl so) = absurd so
  inserted key value is_replaced if_so if_not (said.Key (says.Removed word)) (Answered a) (inl so) = absurd so
  inserted key value is_replaced if_so if_not _ _ come = absurd come

  -- one that leaves a pair that is there: it tells whether its own was stored
  tried : (key : K) (value : V) (is_stored : Said → Bool) → ((new : ℕ) → is_stored (said.Key (says.Stored new)) ≡ true) → ((word : ℕ) → is_stored (said.Key (says.Found word)) ≡ false)
      → (it : Said) (o : Outcome V) → HasOutcome known (one_key.TryInsert key value) replies (progress.Done it) o
      → (pair : ℕ) × (o ≡ Answered (if is_stored it then answers.Stored pair else answers.Occupied pair value))
  tried key value is_stored if_so if_not (said.Key (says.Stored new)) (Answered a) (inr (n, names, v, means)) =
      (n, ap Answered (subst (λ (q : Bool). a ≡ (if q then answers.Stored n else answers.Occupied n value)) (sym (if_so new)) (let one : answers.Stored n ≡ a = cc means in sym one)))
  tried key value is_stored if_so if_not (said.Key (says.Found word)) (Answered a) (inl (n, names, means)) =
      (n, ap Answered (subst (λ (q : Bool). a ≡ (if q then answers.Stored n else answers.Occupied n value)) (sym (if_not word)) (let is = means 0 in let one : answers.Occupied n value ≡ a = cc is in sym one)))
  tried key value is_stored if_so if_not (said.Key (says.Replaced old new)) (Answered a) (inr (o, n, was, names, v, means)) = absurd (cc means)
  tried key value is_stored if_so if_not (said.Key (says.Removed word)) (Answered a) (inr (o, names, means)) = absurd (let is = means 0 in cc is)
  tried key value is_stored if_so if_not (said.Key says.Absent) (Answered a) (inl means) = absurd (let is = means 0 in cc is)
  tried key value is_stored if_so if_not (said.Key says.Absent) (Answered a) (inr done) = absurd done
  tried key value is_stored if_so if_not (said.Key (says.Found word)) (Answered a) (inr done) = absurd done
  tried key value is_stored if_so if_not (said.Key (says.Stored new)) (Answered a) (inl so) = absurd so
  tried key value is_stored if_so if_not (said.Key (says.Replaced old new)) (Answered a) (inl so) = absurd so
  tried key value is_stored if_so if_not (said.Key (says.Removed word)) (Answered a) (inl so) = absurd so
  tried key value is_stored if_so if_not _ _ come = absurd come

  -- a removing: it tells whether there was a pair
  removed : (key : K) (is_removed : Said → Bool) → ((word : ℕ) → is_removed (said.Key (says.Removed word)) ≡ true) → is_removed (said.Key says.Absent) ≡ false
      → (it : Said) (o : Outcome V) → HasOutcome known (one_key.Remove key) replies (progress.Done it) o → (pair : Option ℕ) × (is_some pair ≡ is_removed it) × (o ≡ Answered (looked pair))
  removed key is_removed if_so if_not (said.Key (says.Removed word)) (Answered a) (inr (o, names, means)) =
      (Some o, sym (if_so word), ap Answered (let is = means 0 in let one : answers.Found o ≡ a = cc is in sym one))
  removed key is_removed if_so if_not (said.Key says.Absent) (Answered a) (inl means) = (None, sym if_not, ap Answered (let is = means 0 in let one : answers.Absent ≡ a = cc is in sym one))
  removed key is_removed if_so if_not (said.Key (says.Stored new)) (Answered a) (inr (n, names, v, means)) = absurd (cc means)
  removed key is_removed if_so if_not (said.Key (says.Replaced old new)) (Answered a) (inr (o, n, was, names, v, means)) = absurd (cc means)
  removed key is_removed if_so if_not (said.Key (says.Found word)) (Answered a) (inl (n, names, means)) = absurd (let is = means 0 in cc is)
  removed key is_removed if_so if_not (said.Key says.Absent) (Answered a) (inr done) = absurd done
  removed key is_removed if_so if_not (said.Key (says.Found word)) (Answered a) (inr done) = absurd done
  removed key is_removed if_so if_not (said.Key (says.Stored new)) (Answered a) (inl so) = absurd so
  removed key is_removed if_so if_not (said.Key (says.Replaced old new)) (Answered a) (inl so) = absurd so
  removed key is_removed if_so if_not (said.Key (says.Removed word)) (Answered a) (inl so) = absurd so
  removed key is_removed if_so if_not _ _ come = absurd come

  -- And which pair its answer names: one that a lookup has found,
  met : (key : K) (word : ℕ) (o : Outcome V) → HasOutcome known (one_key.Get key) replies (progress.Done (said.Key (says.Found word))) o
      → (n : ℕ) × (known.roles (block_in word) ≡ role.Pair n) × (o ≡ Answered (answers.Found n))
  met key word (Answered a) (inl (n, names, means)) = (n, names, ap Answered (let is = means 0 in let one : answers.Found n ≡ a = cc is in sym one))
  met key word (Answered a) (inr done) = absurd done
  met key word _ comes = absurd comes

  -- one that was removed,
  taken : (key : K) (word : ℕ) (o : Outcome V) → HasOutcome known (one_key.Remove key) replies (progress.Done (said.Key (says.Removed word))) o
      → (n : ℕ) × (known.roles (block_in word) ≡ role.Pair n) × (o ≡ Answered (answers.Found n))
  taken key word (Answered a) (inr (n, names, means)) = (n, names, ap Answered (let is = means 0 in let one : answers.Found n ≡ a = cc is in sym one))
  taken key word (Answered a) (inl so) = absurd so
  taken key word _ comes = absurd comes

  -- and one that is there where a pair was to be stored
  put : (key : K) (value : V) (word : ℕ) (it : Said) (o : Outcome V) → HasOutcome known (one_key.TryInsert key value) replies (progress.Done it) o → pair_there it ≡ Some word
      → (n : ℕ) × (known.roles (block_in word) ≡ role.Pair n) × (o ≡ Answered (if is_put it then answers.Stored n else answers.Occupied n value))
  put key value word (said.Key (says.Stored new)) (Answered a) (inr (n, names, v, means)) is =
      (n, subst (λ (w : ℕ). known.roles (block_in w) ≡ role.Pair n) (same_some new word is) names, ap Answered (let one : answers.Stored n ≡ a = cc means in sym one))
  put key value word (said.Key (says.Found old)) (Answered a) (inl (n, names, means)) is =
      (n, subst (λ (w : ℕ). known.roles (block_in w) ≡ role.Pair n) (same_some old word is) names, ap Answered (let so = means 0 in let one : answers.Occupied n value ≡ a = cc so in sym one))
  put key value word (said.Key (says.Replaced old new)) (Answered a) (inr (o, n, was, names, v, means)) is = absurd (cc means)
  put key value word (said.Key (says.Found old)) (Answered a) (inr done) is = absurd done
  put key value word (said.Key (says.Stored new)) (Answered a) (inl so) is = absurd so
  put key value word (said.Key (says.Replaced old new)) (Answered a) (inl so) is = absurd so
  put key value word (said.Key (says.Removed old)) o comes is = absurd (cc is)
  put key value word (said.Key says.Absent) o comes is = absurd (cc is)
  put key value word _ _ comes is = absurd comes

module _ {K V S : Type 0} (same : K → K → Bool) (hash : S → K → ℕ) (fixed : Fixed) (small : fixed.batch_size < 2 ^ 64) (id t : ℕ) (v : View K V S) (map : Map S) (run : BegunCall K V)
    (before : List (BegunCall K V)) (knows : v.map ≡ Some map) (section : section_of v.under v.slot ≡ Some t) (calls_are : v.calls ≡ run ∷ before) (on_it : run.map ≡ map.number) where
  -- what was wanted, and has come to its end
  module _ (wanted : Wanted K V) (simple : plain wanted ≡ wanted) (began : run.began ≡ machine_for same hash map t wanted) (ended : has_ended run.told ≡ true) where
    -- in each state
    module _ (aborts : ℕ → V) (s : State (Node K V) (View K V S) (MapsWorld K V S)) (h : Holds same hash fixed s) (at_id : view_of s id ≡ Some v) where
      abbrev pub history : List (Entry K V)
      history = (tell same hash fixed small aborts id t v map wanted run [] before knows calls_are on_it simple began ended s h at_id).0.history

      its_slot : IsSlot t
      its_slot = subst IsSlot (section_place v.under v.slot t section) (h.so.seats id v at_id).slot

      its_runs : AreRuns same hash (calls_of id s.world.doings h.reached.1 []) (run ∷ before)
      its_runs = runs same hash fixed small aborts id t v map wanted run [] before knows calls_are on_it simple began ended s h at_id

      -- the newest call of the list is this one: the newest step of its caller's calls is its end
      module _ (one : Called K V) (is : IsRun same hash one run) (its : seat_of one.caller ≡ id) where
        caller : caller_at id t ≡ one.caller
        caller = same_caller same hash fixed small aborts id t v map wanted run [] before knows calls_are on_it simple began ended s h at_id one is its

        wants : wanted ≡ one.wanted
        wants = same_wanted same hash fixed small aborts id t v map wanted run [] before knows calls_are on_it simple began ended s h at_id one is

        on : map.number ≡ one.map
        on = same_map same hash fixed small aborts id t v map wanted run [] before knows calls_are on_it simple began ended s h at_id one is

        its_end : (calls : List (Called K V)) → NewestCall (caller_at id t) (HasEndedLast same history) (one ∷ calls) → ByNewest (caller_at id t) (EndsAs same (caller_at id t) map.number wanted run.told) history
        its_end calls last =
            let had = subst (λ (q : Bool). IfElse q (HasEndedLast same history one) (NewestCall (caller_at id t) (HasEndedLast same history) calls)) (eq-eqb one.caller (caller_at id t) (sym caller)) last in
            subst (λ (c : ℕ). ByNewest c (EndsAs same c map.number wanted run.told) history) (sym caller)
            (subst (λ (m : ℕ). ByNewest one.caller (EndsAs same one.caller m wanted run.told) history) (sym on)
            (subst (λ (w : Wanted K V). ByNewest one.caller (EndsAs same one.caller one.map w run.told) history) (sym wants)
            (subst (λ (p : Progress (Node K V)). ByNewest one.caller (EndsAs same one.caller one.map one.wanted p) history) (sym is.told) (had (ap has_ended (sym is.told) ∙ ended)))))

      pub ends : ByNewest (caller_at id t) (EndsAs same (caller_at id t) map.number wanted run.told) history
      ends =
          by (calls_of id s.world.doings h.reached.1 []) its_runs (calls_its id s.world.doings h.reached.1 [] tt)
          ((tell same hash fixed small aborts id t v map wanted run [] before knows calls_are on_it simple began ended s h at_id).2.last (caller_at id t) (sym (its_seat id t its_slot)))
        where
          by : (calls : List (Called K V)) → AreRuns same hash calls (run ∷ before) → AllByRecursion (IsIts id) calls → NewestCall (caller_at id t) (HasEndedLast same history) calls
              → ByNewest (caller_at id t) (EndsAs same (caller_at id t) map.number wanted run.told) history
          by [] are its last = absurd are
          by (one ∷ calls) are its last = its_end one are.0 its.0 calls last

    -- so it is in the history of each
    in_its : (So : ℕ → ℕ → List (Entry K V) → Entry K V → Type 0)
        → ((aborts : ℕ → V) (s : State (Node K V) (View K V S) (MapsWorld K V S)) (h : Holds same hash fixed s) (at_id : view_of s id ≡ Some v)
        → ByNewest (caller_at id t) (So (caller_at id t) map.number) (history aborts s h at_id)) → ItsCall same hash fixed id v So
    in_its So so = (
      map,
      knows,
      λ aborts s h at_id.
          let legal = histories_are_legal V same hash fixed small aborts s h in
          let told = tell same hash fixed small aborts id t v map wanted run [] before knows calls_are on_it simple began ended s h at_id in (
            legal.0,
            legal.1,
            legal.2,
            legal.3,
            subst (λ (a : ℕ). ByNewest (caller_at id a) (So (caller_at id a) map.number) legal.0.history) (sym (section_place v.under v.slot t section))
                (subst (λ (x : Played K V S). ByNewest (caller_at id t) (So (caller_at id t) map.number) x.history) (same_some told.0 legal.0 (sym told.1 ∙ legal.1)) (so aborts s h at_id)),
          ),
    )

    -- by what it was told
    pub by_newest : (So : ℕ → ℕ → List (Entry K V) → Entry K V → Type 0)
        → ((log : List (Entry K V)) (e : Entry K V) → EndsAs same (caller_at id t) map.number wanted run.told log e → So (caller_at id t) map.number log e) → ItsCall same hash fixed id v So
    by_newest So so =
        in_its So
        (λ aborts s h at_id.
        newest_as (caller_at id t) (EndsAs same (caller_at id t) map.number wanted run.told) (So (caller_at id t) map.number) so (history aborts s h at_id) (ends aborts s h at_id))

    -- A pair that the seat has seen last is in the memory that it was seen in: so its number, as that was noted when the call came to its end, is that of this pair.
    module _ (word : ℕ) (stored : K) (value : V) (shown : shown_in v.held (block_in word) ≡ Some (Pair stored value)) where
      -- by this number it is stored
      abbrev Names : Known → List (Entry K V) → Type 0
      Names known log = (n : ℕ) → known.roles (block_in word) ≡ role.Pair n → pair_at (moment log).stored n ≡ Some (stored, value)

      names : (known : Known) (memory : Mem (Node K V)) (log : List (Entry K V)) → NotedAreThere known memory log → value_at memory (block_in word) ≡ Some (Pair stored value) → Names known log
      names known memory log noted there n is =
          let p = noted (block_in word) n is in
          let same_pair : Pair p.0 p.1 ≡ Pair stored value = same_some (Pair p.0 p.1) (Pair stored value) (sym p.3 ∙ there) in
          let key_is : p.0 ≡ stored = cc same_pair in
          let value_is : p.1 ≡ value = cc same_pair in p.2 ∙ ap (λ (k : K). Some (k, p.1)) key_is ∙ ap (λ (x : V). Some (stored, x)) value_is

      module _ (aborts : ℕ → V) (s : State (Node K V) (View K V S) (MapsWorld K V S)) (h : Holds same hash fixed s) (at_id : view_of s id ≡ Some v) where
        abbrev then_ : List (Entry K V)
        then_ = history aborts s h at_id

        abbrev i : ℕ
        i = caller_at id (acts_in v.under v.slot)

        seen : (memory : Mem (Node K V))
            × (seen_of V same hash fixed.batch_size fixed.roots slot_of h.course id s.world.doings (nothing_done V same hash fixed.batch_size fixed.roots slot_of h.course) h.reached h.led None ≡ Some (i, memory))
            × IsNewest i (calls_of id s.world.doings h.reached.1 []) × (value_at memory (block_in word) ≡ Some (Pair stored value))
        seen = h.seen id v at_id (block_in word) (Pair stored value) shown

        -- so it is of the newest call of the list
        by : (calls : List (Called K V)) → AreRuns same hash calls (run ∷ before) → IsNewest i calls → IfNewest same i (HasEndedIn same then_ seen.0) calls
            → ByNewest (caller_at id t) (EndsIn same seen.0 (caller_at id t) map.number wanted run.told) then_
        by [] are newest last = absurd are
        by (one ∷ earlier) are newest last =
            let wanted_is = same_wanted same hash fixed small aborts id t v map wanted run [] before knows calls_are on_it simple began ended s h at_id one are.0 in
            let map_is = same_map same hash fixed small aborts id t v map wanted run [] before knows calls_are on_it simple began ended s h at_id one are.0 in
            subst (λ (c : ℕ). ByNewest c (EndsIn same seen.0 c map.number wanted run.told) then_) (newest ∙ ap (caller_at id) (section_place v.under v.slot t section))
            (subst (λ (m : ℕ). ByNewest one.caller (EndsIn same seen.0 one.caller m wanted run.told) then_) (sym map_is)
            (subst (λ (w : Wanted K V). ByNewest one.caller (EndsIn same seen.0 one.caller one.map w run.told) then_) (sym wanted_is)
            (subst (λ (p : Progress (Node K V)). ByNewest one.caller (EndsIn same seen.0 one.caller one.map one.wanted p) then_) (sym are.0.told)
            (last newest (ap has_ended (sym are.0.told) ∙ ended)))))

        ends_in : ByNewest (caller_at id t) (EndsIn same seen.0 (caller_at id t) map.number wanted run.told) then_
        ends_in =
            by (calls_of id s.world.doings h.reached.1 []) (its_runs aborts s h at_id) seen.2
            ((tell same hash fixed small aborts id t v map wanted run [] before knows calls_are on_it simple began ended s h at_id).2.found i seen.0
            (sym (its_seat id (acts_in v.under v.slot) (h.so.seats id v at_id).slot)) seen.1)

      pub by_seen : (So : ℕ → ℕ → List (Entry K V) → Entry K V → Type 0)
          → ((log : List (Entry K V)) (e : Entry K V) (ends : EndsAs same (caller_at id t) map.number wanted run.told log e) → Names ends.0 (e ∷ log) → So (caller_at id t) map.number log e)
          → ItsCall same hash fixed id v So
      by_seen So so =
          in_its So
          (λ aborts s h at_id.
          let its = seen aborts s h at_id in
          newest_as (caller_at id t) (EndsIn same its.0 (caller_at id t) map.number wanted run.told) (So (caller_at id t) map.number)
          (λ log e ends. so log e ends.0 (names ends.0.0 its.0 (e ∷ log) ends.1 its.3)) (history aborts s h at_id) (ends_in aborts s h at_id))

  -- It has looked a key up: there was no pair for it,
  pub found_none : (key : K) → run.began ≡ machine_for same hash map t (Get key) → run.told ≡ progress.Done (said.Key says.Absent) → FoundNone same hash fixed id v key
  found_none key began told =
      by_newest (Get key) refl began (ap has_ended told) (λ i m. WasSo same i m key answers.Absent) (λ log e ends.
      let o = outcome_of ends.0 (kind_of (call_for {K = K} {V = V} (Get key))) ends.1 run.told in
      let on = ends.4 (one_key.Get key) refl in
      let by = such ends.0 key on.0 says.Absent o (subst (λ (p : Progress (Node K V)). HasOutcome ends.0 (one_key.Get key) on.0 p o) told on.1) in
      ends.3 key answers.Absent refl (by.2 ∙ ap Answered by.1))

  -- or there was one,
  pub has_looked : (key : K) (word : ℕ) → run.began ≡ machine_for same hash map t (Get key) → run.told ≡ progress.Done (said.Key (says.Found word)) → HasLooked same hash fixed id v key true
  has_looked key word began told =
      by_newest (Get key) refl began (ap has_ended told) (λ i m log e. (pair : Option ℕ) × (is_some pair ≡ true) × WasSo same i m key (looked pair) log e) (λ log e ends.
      let o = outcome_of ends.0 (kind_of (call_for {K = K} {V = V} (Get key))) ends.1 run.told in
      let on = ends.4 (one_key.Get key) refl in
      let by = such ends.0 key on.0 (says.Found word) o (subst (λ (p : Progress (Node K V)). HasOutcome ends.0 (one_key.Get key) on.0 p o) told on.1) in
      (Some by.1.0, refl, ends.3 key (answers.Found by.1.0) refl (by.2 ∙ ap Answered by.1.1)))

  pub has_missed : (key : K) → run.began ≡ machine_for same hash map t (Get key) → run.told ≡ progress.Done (said.Key says.Absent) → HasLooked same hash fixed id v key false
  has_missed key began told =
      by_newest (Get key) refl began (ap has_ended told) (λ i m log e. (pair : Option ℕ) × (is_some pair ≡ false) × WasSo same i m key (looked pair) log e) (λ log e ends.
      let o = outcome_of ends.0 (kind_of (call_for {K = K} {V = V} (Get key))) ends.1 run.told in
      let on = ends.4 (one_key.Get key) refl in
      let by = such ends.0 key on.0 says.Absent o (subst (λ (p : Progress (Node K V)). HasOutcome ends.0 (one_key.Get key) on.0 p o) told on.1) in
      (None, refl, ends.3 key answers.Absent refl (by.2 ∙ ap Answered by.1)))

  -- of which this is the value that it holds.
  pub found_value : (key : K) (word : ℕ) (stored : K) (value : V) → run.began ≡ machine_for same hash map t (Get key) → run.told ≡ progress.Done (said.Key (says.Found word))
      → shown_in v.held (block_in word) ≡ Some (Pair stored value) → FoundValue same hash fixed id v key value
  found_value key word stored value began told shown =
      by_seen (Get key) refl began (ap has_ended told) word stored value shown (λ i m. WasHad same i m key value) (λ log e ends names.
      let o = outcome_of ends.0 (kind_of (call_for {K = K} {V = V} (Get key))) ends.1 run.told in
      let on = ends.4 (one_key.Get key) refl in
      let found = met ends.0 on.0 key word o (subst (λ (p : Progress (Node K V)). HasOutcome ends.0 (one_key.Get key) on.0 p o) told on.1) in
      record { number = found.0; found = ends.3 key (answers.Found found.0) refl found.2; stored = stored; pair = names found.0 found.1 })

  -- It has stored a pair, in the place of another one or of none,
  pub has_inserted : (key : K) (value : V) (it : Said) → run.began ≡ machine_for same hash map t (Insert key value) → run.told ≡ progress.Done it → (is_replaced : Said → Bool)
      → ((old new : ℕ) → is_replaced (said.Key (says.Replaced old new)) ≡ true) → ((new : ℕ) → is_replaced (said.Key (says.Stored new)) ≡ false) → HasInserted same hash fixed id v key value (is_replaced it)
  has_inserted key value it began told is_replaced if_so if_not =
      by_newest (Insert key value) refl began (ap has_ended told)
      (λ i m log e. (old : Option ℕ) × (is_some old ≡ is_replaced it) × IsItsEnd same i m (On (one_key.Insert key value)) (Answered (looked old)) log e) (λ log e ends.
      let o = outcome_of ends.0 (kind_of (call_for (Insert key value))) ends.1 run.told in
      let on = ends.4 (one_key.Insert key value) refl in
      let by = inserted ends.0 on.0 key value is_replaced if_so if_not it o (subst (λ (p : Progress (Node K V)). HasOutcome ends.0 (one_key.Insert key value) on.0 p o) told on.1) in
      (by.0, by.1, subst (λ (a : Outcome V). IsItsEnd same (caller_at id t) map.number (On (one_key.Insert key value)) a log e) by.2 ends.2))

  -- or where there was none,
  pub has_tried : (key : K) (value : V) (it : Said) → run.began ≡ machine_for same hash map t (TryToInsert key value) → run.told ≡ progress.Done it → (is_stored : Said → Bool)
      → ((new : ℕ) → is_stored (said.Key (says.Stored new)) ≡ true) → ((word : ℕ) → is_stored (said.Key (says.Found word)) ≡ false) → HasTried same hash fixed id v key value (is_stored it)
  has_tried key value it began told is_stored if_so if_not =
      by_newest (TryToInsert key value) refl began (ap has_ended told)
      (λ i m log e. (pair : ℕ) × IsItsEnd same i m (On (one_key.TryInsert key value)) (Answered (if is_stored it then answers.Stored pair else answers.Occupied pair value)) log e) (λ log e ends.
      let o = outcome_of ends.0 (kind_of (call_for (TryToInsert key value))) ends.1 run.told in
      let on = ends.4 (one_key.TryInsert key value) refl in
      let by = tried ends.0 on.0 key value is_stored if_so if_not it o (subst (λ (p : Progress (Node K V)). HasOutcome ends.0 (one_key.TryInsert key value) on.0 p o) told on.1) in
      (by.0, subst (λ (a : Outcome V). IsItsEnd same (caller_at id t) map.number (On (one_key.TryInsert key value)) a log e) by.1 ends.2))

  -- or has removed one,
  pub has_removed : (key : K) (it : Said) → run.began ≡ machine_for same hash map t (Remove key) → run.told ≡ progress.Done it → (is_removed : Said → Bool)
      → ((word : ℕ) → is_removed (said.Key (says.Removed word)) ≡ true) → is_removed (said.Key says.Absent) ≡ false → HasRemoved same hash fixed id v key (is_removed it)
  has_removed key it began told is_removed if_so if_not =
      by_newest (Remove key) refl began (ap has_ended told)
      (λ i m log e. (pair : Option ℕ) × (is_some pair ≡ is_removed it) × IsItsEnd same i m (On (one_key.Remove key)) (Answered (looked pair)) log e) (λ log e ends.
      let o = outcome_of ends.0 (kind_of (call_for {K = K} {V = V} (Remove key))) ends.1 run.told in
      let on = ends.4 (one_key.Remove key) refl in
      let by = removed ends.0 on.0 key is_removed if_so if_not it o (subst (λ (p : Progress (Node K V)). HasOutcome ends.0 (one_key.Remove key) on.0 p o) told on.1) in
      (by.0, by.1, subst (λ (a : Outcome V). IsItsEnd same (caller_at id t) map.number (On (one_key.Remove key)) a log e) by.2 ends.2))

  -- just this one,
  pub has_removed_pair : (key : K) (word : ℕ) (stored : K) (value : V) → run.began ≡ machine_for same hash map t (Remove key) → run.told ≡ progress.Done (said.Key (says.Removed word))
      → shown_in v.held (block_in word) ≡ Some (Pair stored value) → HasRemovedPair same hash fixed id v key (stored, value)
  has_removed_pair key word stored value began told shown =
      by_seen (Remove key) refl began (ap has_ended told) word stored value shown
      (λ i m. WasNamed same i m (On (one_key.Remove key)) answers.Found (stored, value)) (λ log e ends names.
      let o = outcome_of ends.0 (kind_of (call_for {K = K} {V = V} (Remove key))) ends.1 run.told in
      let on = ends.4 (one_key.Remove key) refl in
      let by = taken ends.0 on.0 key word o (subst (λ (p : Progress (Node K V)). HasOutcome ends.0 (one_key.Remove key) on.0 p o) told on.1) in
      (by.0, subst (λ (a : Outcome V). IsItsEnd same (caller_at id t) map.number (On (one_key.Remove key)) a log e) by.2 ends.2, names by.0 by.1))

  -- or has come upon one that is there now, its own or the other one,
  pub has_one : (key : K) (value : V) (it : Said) (word : ℕ) (stored : K) (lent : V) → run.began ≡ machine_for same hash map t (TryToInsert key value) → run.told ≡ progress.Done it
      → pair_there it ≡ Some word → shown_in v.held (block_in word) ≡ Some (Pair stored lent) → HasOne same hash fixed id v key value lent
  has_one key value it word stored lent began told there shown =
      by_seen (TryToInsert key value) refl began (ap has_ended told) word stored lent shown
      (λ i m. WasThere same i m key value lent) (λ log e ends names.
      let o = outcome_of ends.0 (kind_of (call_for (TryToInsert key value))) ends.1 run.told in
      let on = ends.4 (one_key.TryInsert key value) refl in
      let by = put ends.0 on.0 key value word it o (subst (λ (p : Progress (Node K V)). HasOutcome ends.0 (one_key.TryInsert key value) on.0 p o) told on.1) there in
      (is_put it, by.0, subst (λ (a : Outcome V). IsItsEnd same (caller_at id t) map.number (On (one_key.TryInsert key value)) a log e) by.2 ends.2, stored, names by.0 by.1))

  -- or was refused.
  pub has_refused : (wanted : Wanted K V) → plain wanted ≡ wanted → (fault : Fault) → run.began ≡ machine_for same hash map t wanted → run.told ≡ progress.Refused fault → HasRefused same hash fixed id v wanted fault
  has_refused wanted simple fault began told =
      by_newest wanted simple began (ap has_ended told) (λ i m. IsItsEnd same i m (call_for wanted) (Refused fault)) (λ log e ends.
      subst (λ (p : Progress (Node K V)). IsItsEnd same (caller_at id t) map.number (call_for wanted) (outcome_of ends.0 (kind_of (call_for wanted)) ends.1 p) log e) told ends.2)
