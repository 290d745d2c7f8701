-- A call on one key that one owner runs, and tells what it asks, puts no pair into the memory but the one that it tells as stored.
use Rattle.std.specs.Prelude.{◌^◌, ◌<◌, Result, Ok, Err}
use Rattle.std.proofs.Common.{◌≡◌, ◌≢◌, ℕ, Bool, ◌⊎◌, inl, inr, refl, sym, ◌∙◌, ap, subst}
use Rattle.seize_words.specs.OneMemory.Mem.{Mem, Can, Took, value_at}
use Rattle.seize_words.specs.OneMemory.Plan.{Steps}
use Rattle.seize_words.specs.OneMemory.Word.{block_in}
use Rattle.seize_words.specs.declared.fault.Fault.{Fault}
use Rattle.seize_words.specs.declared.fault.Fault.TheVariants.{RemoveNothing}
use Rattle.seize_words.proofs.OneMemory.Plans.{may_as}
use Rattle.seize.specs.declared.advance.Advance.{Advance}
use Rattle.seize.specs.declared.advance.Advance.TheVariants as progress
use Rattle.map_straight.proofs.Given.SeizeRuleRows.Leaving.{steps_back}
use Rattle.map_tables.specs.declared.node.Node.{Node}
use Rattle.papaya_raw.specs.Call.{call_plan}
use Rattle.papaya_raw.specs.CallAsks.{with_absent, with_present, absent_replied, present_replied, replied, replied_at}
use Rattle.papaya_raw.specs.CallPoints.{standing}
use Rattle.papaya_raw.specs.declared.machines.answer.Called.{Called}
use Rattle.papaya_raw.specs.declared.machines.answer.Called.TheVariants as called
use Rattle.papaya_raw.specs.declared.machines.answer.End.TheVariants as ends
use Rattle.papaya_raw.specs.declared.machines.answer.KeyAnswer.{KeyAnswer}
use Rattle.papaya_raw.specs.declared.machines.answer.KeyAnswer.TheVariants as answers
use Rattle.papaya_raw.specs.declared.machines.answer.There.TheVariants as there
use Rattle.papaya_raw.specs.declared.machines.asking.Asking.TheVariants as asking
use Rattle.papaya_raw.specs.declared.machines.asking.Gap.{Gap}
use Rattle.papaya_raw.specs.declared.machines.asking.MachineReply.{MachineReply}
use Rattle.papaya_raw.specs.declared.machines.asking.MachineReply.TheVariants as reply
use Rattle.papaya_raw.specs.declared.machines.asking.Takes.{Takes}
use Rattle.papaya_raw.specs.declared.machines.asking.Takes.TheVariants as takes
use Rattle.papaya_raw.specs.declared.machines.asking.Told.TheVariants as tells
use Rattle.papaya_raw.specs.declared.machines.call.Calling.{Calling}
use Rattle.papaya_raw.specs.declared.machines.call.Calling.TheVariants as at
use Rattle.papaya_raw.specs.declared.machines.call.KeyCall.{KeyCall}
use Rattle.owner_whole.specs.Given.CallersPairs.{Given}
use Rattle.owner_whole.specs.Given.CallersTogether.{IsBegun, Gets, Removes, Inserts, TriesToInsert, Computes, Updates, UpdatesOrInserts, TriesToInsertWith, RemovesIf}
use Rattle.owner_whole.specs.Strides.Ending.{Continues, EndsWith, Ends, RunsTo, stops, goes}
use Rattle.owner_calls.specs.Owned.Machines.{on_key_after, on_key_plan, on_key_settled}
use Rattle.owner_calls.specs.declared.machines.OnKey.{OnKey}
use Rattle.owner_calls.specs.declared.machines.Stop.{Stop}
use Rattle.owner_calls.specs.declared.machines.Stop.TheVariants as stop
use Rattle.owner_whole.proofs.Strides.Runs.Steps.{may_step, ends_on}
use Rattle.owner_calls.specs.Holds.Came.{StandsAt, NoneCame, CameBy, AnswerNamesOwn, OwnsAt, Owns, HasOnly, HasCome, HasOutcome}
use Rattle.owner_calls.specs.Holds.Promises.{CallsBegin, CallsStoreAlone, RepliesPutNone}
use Rattle.owner_calls.proofs.Holds.Calls.Goes.{TellsSo, ending_so, burying_so, gap_so}
use Rattle.owner_calls.proofs.Holds.Calls.Steps.{step_comes}

-- It begins with no block of its own.
module _ {K V Q : Type 0} (m : Mem (Node K V)) (p : KeyCall K V Q) where
  begins_so : Owns p → HasCome m m p
  begins_so owns = record { owns = owns; only = λ b x here. inl here }

pub calls_begin : (K V Q : Type 0) → CallsBegin K V Q
calls_begin K V Q same hash asks setting slot i lawful keys given call begun m = begins_so m call (by keys given call begun)
  where
    by : (keys : K → Bool) (given : Given K V) (call : KeyCall K V Q) → IsBegun V same hash asks setting slot i keys given call → Owns call
    by _ _ _ (Gets q code few class) = record { code = few; live = λ e. absurd (cc e); removes = λ e. absurd (cc e); point = refl }
    by _ _ _ (Removes q code few class) = record { code = few; live = λ e. absurd (cc e); removes = λ e. (refl, refl); point = tt }
    by _ _ _ (Inserts key value) = record { code = lawful.fits key; live = λ e. absurd (cc e); removes = λ e. absurd (cc e); point = (refl, λ e. absurd (cc e)) }
    by _ _ _ (TriesToInsert key value) = record { code = lawful.fits key; live = λ e. absurd (cc e); removes = λ e. absurd (cc e); point = (refl, λ e. absurd (cc e)) }
    by _ _ _ (Computes key) = record { code = lawful.fits key; live = λ e. absurd (cc e); removes = λ e. absurd (cc e); point = tt }
    by _ _ _ (Updates key) = record { code = lawful.fits key; live = λ e. absurd (cc e); removes = λ e. absurd (cc e); point = tt }
    by _ _ _ (UpdatesOrInserts key absent) = record { code = lawful.fits key; live = λ e. absurd (cc e); removes = λ e. absurd (cc e); point = tt }
    by _ _ _ (TriesToInsertWith key) = record { code = lawful.fits key; live = λ e. absurd (cc e); removes = λ e. absurd (cc e); point = tt }
    by _ _ _ (RemovesIf q code few class) = record { code = few; live = λ e. absurd (cc e); removes = λ e. absurd (cc e); point = tt }

-- What it has come to, by what it tells.
module _ {K V : Type 0} (m0 m : Mem (Node K V)) (own : ℕ) (only : (b : ℕ) (x : K × V) → StandsAt m b x → StandsAt m0 b x ⊎ ((own ≢ 0) × (b ≡ block_in own))) where
  pub none_so : own ≡ 0 → NoneCame m0 m
  none_so none b x here = elim (only b x here) as (λ _. StandsAt m0 b x) [
    | inl was ↦ was
    | inr mine ↦ absurd (mine.0 none)
  ]

  but_so : (word : ℕ) → word ≡ own → (b : ℕ) (x : K × V) → StandsAt m b x → StandsAt m0 b x ⊎ (b ≡ block_in word)
  but_so word is b x here = elim (only b x here) as (λ _. StandsAt m0 b x ⊎ (b ≡ block_in word)) [
    | inl was ↦ inl was
    | inr mine ↦ inr (mine.1 ∙ ap block_in (sym is))
  ]

  pub answered : (answer : KeyAnswer) → AnswerNamesOwn own answer → CameBy m0 m answer
  answered answers.Absent so = none_so so
  answered (answers.Found word) so = none_so so
  answered (answers.Stored word) so = but_so word so
  answered (answers.Replaced old new) so = but_so new so
  answered (answers.Removed word) so = none_so so

module _ {K V Q S : Type 0} (m0 m : Mem (Node K V)) where
  -- where a step of the machine leads
  abbrev Next : OnKey K V Q S × Advance Stop → Type 0
  Next (x, progress.Done (stop.Answered answer)) = CameBy m0 m answer
  Next (x, progress.Done (stop.Asks asked)) = HasCome m0 m x.call
  Next (x, progress.Refused fault) = NoneCame m0 m
  Next (x, _) = HasCome m0 m x.call

  next_by : (x : OnKey K V Q S) (told : Called (Node K V)) → Owns x.call → TellsSo (x.call, told) → HasOnly m0 m x.call → Next (on_key_settled x told)
  next_by x called.Goes owns so only = record { owns = owns; only = only }
  next_by x called.Waits owns so only = record { owns = owns; only = only }
  next_by x (called.Gave value) owns so only = record { owns = owns; only = only }
  next_by x (called.Unstored value) owns so only = record { owns = owns; only = only }
  next_by x (called.Asks asked) owns so only = record { owns = owns; only = only }
  next_by x (called.Done answer) owns so only = answered m0 m x.call.own only answer so
  next_by x (called.Refused fault) owns so only = none_so m0 m x.call.own only so

  stopped : (x : OnKey K V Q S) (told : Advance Stop) (result : Result Stop Fault) → Next (x, told) → EndsWith told result → HasOutcome m0 m x result
  stopped x (progress.Done a) (Ok b) next tells = subst (λ (z : Stop). HasOutcome m0 m x (Ok z)) (sym tells) (by a next)
    where
      by : (a : Stop) → Next (x, progress.Done a) → HasOutcome m0 m x (Ok a)
      by (stop.Answered answer) next = next
      by (stop.Asks asked) next = next
  stopped x (progress.Refused f) (Err g) next tells = next
  stopped x (progress.Refused f) (Ok b) next tells = absurd tells
  stopped x (progress.Done a) (Err g) next tells = absurd tells
  stopped x progress.Goes (Ok b) next tells = absurd tells
  stopped x progress.Goes (Err g) next tells = absurd tells
  stopped x progress.Waits (Ok b) next tells = absurd tells
  stopped x progress.Waits (Err g) next tells = absurd tells

  goes_on : (x : OnKey K V Q S) (told : Advance Stop) → Continues told → Next (x, told) → HasCome m0 m x.call
  goes_on x progress.Goes on next = next
  goes_on x progress.Waits on next = next
  goes_on x (progress.Done a) on next = absurd on
  goes_on x (progress.Refused f) on next = absurd on

module _ (K V Q S : Type 0) (asks : Q → K → Bool) (same : K → K → Bool) (hashes : S → K → ℕ) (m0 : Mem (Node K V)) where
  next_of : (x : OnKey K V Q S) (m : Mem (Node K V)) → HasCome m0 m x.call → Ends (on_key_plan asks same hashes) x m → (m2 : Mem (Node K V)) (end : OnKey K V Q S × Advance Stop)
      → Steps Took value_at m (on_key_plan asks same hashes x) m2 end → Next m0 m2 end
  next_of x m h last m2 end s =
      let d = steps_back (on_key_after x) m m2 (call_plan asks same (hashes x.hasher.now) x.call) end s in
      let may = may_as (on_key_after x) Can Took value_at m (call_plan asks same (hashes x.hasher.now) x.call) (may_step (on_key_plan asks same hashes) x m last) in
      let c = step_comes x.call h.owns m0 m m2 h.only asks same (hashes x.hasher.now) d.0 may d.1 in
      subst (Next m0 m2) (sym d.2) (next_by m0 m2 (record x { call = d.0.0 }) d.0.1 c.0 c.1 c.2)

  pub calls_run : (x : OnKey K V Q S) (m : Mem (Node K V)) → HasCome m0 m x.call → Ends (on_key_plan asks same hashes) x m → (x2 : OnKey K V Q S) (m2 : Mem (Node K V)) (result : Result Stop Fault)
      → RunsTo (on_key_plan asks same hashes) x m x2 m2 result → HasOutcome m0 m2 x2 result
  calls_run x m h last x2 m2 result (stops _ _ _ _ told _ s tells) = stopped m0 m2 x2 told result (next_of x m h last m2 (x2, told) s) tells
  calls_run x m h last x2 m2 result (goes _ _ x1 m1 told on s _ _ _ runs) =
      calls_run x1 m1 (goes_on m0 m1 x1 told on (next_of x m h last m1 (x1, told) s)) (ends_on (on_key_plan asks same hashes) x m last m1 x1 told on s) x2 m2 result runs

pub calls_store_alone : (K V Q S : Type 0) → CallsStoreAlone K V Q S
calls_store_alone K V Q S asks same hashes m0 x m h last x2 m2 result runs = calls_run K V Q S asks same hashes m0 x m h last x2 m2 result runs

-- Told anything, it keeps its own block.
module _ {K V Q : Type 0} (p : KeyCall K V Q) (o : Owns p) where
  abbrev Stays : KeyCall K V Q → Type 0
  Stays r = Owns r × (r.own ≡ p.own)

  as_it_is : Stays p
  as_it_is = (o, refl)

  module _ (some : p.there ≢ there.Removes) (here : (r : KeyCall K V Q) → r.there ≡ p.there → r.stands ≡ p.stands → OwnsAt r r.stands) where
    with_told : (r : KeyCall K V Q) → r.hash ≡ p.hash → r.own ≡ p.own → r.there ≡ p.there → r.stands ≡ p.stands → Owns r
    with_told r hash own kind stands = record {
      code = subst (λ (x : ℕ). x < 2 ^ 64) (sym hash) o.code;
      live = λ e. o.live (sym own ∙ e);
      removes = λ e. absurd (some (sym kind ∙ e));
      point = here r kind stands;
    }

    absent_so : (t : Takes) (gap : Gap) (told : MachineReply V) → Stays (absent_replied t p gap told).0
    absent_so takes.Values gap (reply.Insert value) = let r = with_absent p value in let g = gap_so r (with_told r refl refl refl refl) some gap in (g.0, g.2)
    absent_so takes.Changes gap (reply.Insert value) = let r = with_absent p value in let g = gap_so r (with_told r refl refl refl refl) some gap in (g.0, g.2)
    absent_so takes.Changes gap reply.Remove = let g = ending_so p o (ends.Refused RemoveNothing) tt in (g.0, g.2)
    absent_so takes.Changes gap reply.Abort = let g = ending_so p o (ends.Answered answers.Absent) tt in (g.0, g.2)
    absent_so takes.Values gap reply.Remove = as_it_is
    absent_so takes.Values gap reply.Abort = as_it_is
    absent_so takes.Values gap reply.Yes = as_it_is
    absent_so takes.Values gap reply.No = as_it_is
    absent_so takes.Changes gap reply.Yes = as_it_is
    absent_so takes.Changes gap reply.No = as_it_is
    absent_so takes.Choices gap told = as_it_is
    absent_so takes.Nothing gap told = as_it_is

    filling : (word : ℕ) (value : V) → Stays (standing (with_present p word (tells.Value value)) (at.Asks (asking.Fills word)))
    filling word value = (record { code = o.code; live = o.live; removes = o.removes; point = some }, refl)

    present_so : (t : Takes) (word : ℕ) (told : MachineReply V) → Stays (present_replied t p word told).0
    present_so takes.Values word (reply.Insert value) = filling word value
    present_so takes.Changes word (reply.Insert value) = filling word value
    present_so takes.Changes word reply.Remove = let r = with_present p word tells.Removes in let g = burying_so r (with_told r refl refl refl refl) some word in (g.0, g.2)
    present_so takes.Changes word reply.Abort = let g = ending_so p o (ends.Answered (answers.Found word)) tt in (g.0, g.2)
    present_so takes.Choices word reply.Yes = let g = burying_so p o some word in (g.0, g.2)
    present_so takes.Choices word reply.No = let g = ending_so p o (ends.Answered (answers.Found word)) tt in (g.0, g.2)
    present_so takes.Values word reply.Remove = as_it_is
    present_so takes.Values word reply.Abort = as_it_is
    present_so takes.Values word reply.Yes = as_it_is
    present_so takes.Values word reply.No = as_it_is
    present_so takes.Changes word reply.Yes = as_it_is
    present_so takes.Changes word reply.No = as_it_is
    present_so takes.Choices word (reply.Insert value) = as_it_is
    present_so takes.Choices word reply.Remove = as_it_is
    present_so takes.Choices word reply.Abort = as_it_is
    present_so takes.Nothing word told = as_it_is

  asks_at : (stands : Calling) → p.stands ≡ stands → ((r : KeyCall K V Q) → r.there ≡ p.there → OwnsAt r stands) → (r : KeyCall K V Q) → r.there ≡ p.there → r.stands ≡ p.stands → OwnsAt r r.stands
  asks_at stands is so r kind here = subst (OwnsAt r) (sym (here ∙ is)) (so r kind)

  pub told_so : (stands : Calling) → p.stands ≡ stands → OwnsAt p stands → (told : MachineReply V) → Stays (replied_at stands p told).0
  told_so (at.Asks (asking.Absent gap)) is some told =
      absent_so some (asks_at (at.Asks (asking.Absent gap)) is (λ r kind e. some (sym kind ∙ e))) p.replies.takes gap told
  told_so (at.Asks (asking.Present word)) is some told =
      present_so some (asks_at (at.Asks (asking.Present word)) is (λ r kind e. some (sym kind ∙ e))) p.replies.takes word told
  told_so (at.Asks (asking.Fills word)) is some told = as_it_is
  told_so (at.Asks (asking.GivesUp word)) is some told = as_it_is
  told_so at.Makes is some told = as_it_is
  told_so (at.Looks l) is some told = as_it_is
  told_so at.Roots is some told = as_it_is
  told_so at.Probes is some told = as_it_is
  told_so (at.Tries word new) is some told = as_it_is
  told_so (at.Counts removed) is some told = as_it_is
  told_so at.Nexts is some told = as_it_is
  told_so (at.Firsts making) is some told = as_it_is
  told_so (at.Allocs making) is some told = as_it_is
  told_so (at.Helps copier goal) is some told = as_it_is
  told_so (at.Copies copier) is some told = as_it_is
  told_so (at.Disposes dispose answer) is some told = as_it_is
  told_so (at.Drops end) is some told = as_it_is
  told_so (at.Over end) is some told = as_it_is

pub replies_keep_own : {K V Q : Type 0} (p : KeyCall K V Q) → Owns p → (told : MachineReply V) → (replied p told).0.own ≡ p.own
replies_keep_own p o told = (told_so p o p.stands refl o.point told).1

pub replies_put_none : (K V Q : Type 0) → RepliesPutNone K V Q
replies_put_none K V Q m0 m p h told =
    let r = told_so p h.owns p.stands refl h.owns.point told in
    record { owns = r.0; only = λ b x here. subst (λ (own : ℕ). StandsAt m0 b x ⊎ ((own ≢ 0) × (b ≡ block_in own))) (sym r.1) (h.only b x here) }
