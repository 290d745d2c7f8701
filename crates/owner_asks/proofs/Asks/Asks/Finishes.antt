-- A call that asks, for one owner, from its question, where it is told what to do, to its end.
use Rattle.std.specs.Prelude.{◌≡◌, ◌≢◌, ℕ, Bool, true, List, [], Option, Some, None, Result, Ok, Err, ◌⊎◌}
use Rattle.std.proofs.Common.{refl, sym, ◌∙◌, ap, subst, inl, inr}
use Rattle.seize_words.specs.OneMemory.Mem.{Mem}
use Rattle.seize_words.specs.declared.fault.Fault.{Fault}
use Rattle.seize_words.specs.declared.fault.Fault.TheVariants.{RemoveNothing}
use Rattle.map_tables.specs.declared.node.Node.{Node}
use Rattle.map_tables.specs.declared.setting.Setting.{Setting}
use Rattle.papaya_raw.specs.CallAsks.{replied}
use Rattle.papaya_raw.specs.declared.machines.answer.KeyAnswer.{KeyAnswer}
use Rattle.papaya_raw.specs.declared.machines.answer.KeyAnswer.TheVariants as answers
use Rattle.papaya_raw.specs.declared.machines.answer.Missing.TheVariants as missing
use Rattle.papaya_raw.specs.declared.machines.answer.There.TheVariants as there
use Rattle.papaya_raw.specs.declared.machines.asking.Asking.{Asking}
use Rattle.papaya_raw.specs.declared.machines.asking.Asking.TheVariants as asking
use Rattle.papaya_raw.specs.declared.machines.asking.MachineReply.{MachineReply}
use Rattle.papaya_raw.specs.declared.machines.asking.MachineReply.TheVariants as reply
use Rattle.papaya_raw.specs.declared.machines.asking.Takes.{Takes}
use Rattle.papaya_raw.specs.declared.machines.asking.Takes.TheVariants as takes
use Rattle.papaya_raw.specs.declared.machines.call.KeyCall.{KeyCall}
use Rattle.papaya_raw.specs.declared.machines.call.Calling.TheVariants as at
use Rattle.owner_calls.specs.Given.RuleChart.{Chart}
use Rattle.owner_calls.specs.Given.RuleWords.{Blocks}
use Rattle.owner_calls.specs.Given.AloneCounted.{HasAdded}
use Rattle.owner_calls.specs.Given.LateFaults.{IsRoom}
use Rattle.owner_calls.specs.Given.LateKinds.{FaultFits, FitsAt}
use Rattle.owner_calls.proofs.Given.LateKindsKept.Laws.{replies_keep_the_kind}
use Rattle.owner_calls.proofs.Given.LateKindsKept.Rooms.Calling.{key_told_as}
use Rattle.owner_calls.specs.Given.CallersAsked.{last_reply}
use Rattle.owner_calls.specs.Given.CallersKind.{Kind}
use Rattle.owner_calls.specs.Given.CallersPairs.{Given, IsTold, with_reply}
use Rattle.owner_calls.specs.Given.CallersSights.{seen_by}
use Rattle.owner_calls.specs.Given.CallersTogether.{CallOnKey, AsksAbout, RepliesTaken, OnKey as OnKeyOf}
use Rattle.owner_calls.specs.Given.WholeLimits.{IsForTheLast, IsTheLast}
use Rattle.owner_calls.specs.Given.WholeOwner.{IsAlone}
use Rattle.owner_calls.proofs.Given.WholeKeys.Replies.{replies_lead_on, replies_count_nothing}
use Rattle.owner_asks.specs.Asks.Asking.{IsTaken, AnswersAs, RefusedAs, Pauses, AsksOf, StartsAs, RepliedThis, HasKeyBack, HasPairBack}
use Rattle.owner_calls.specs.Given.StridesEnding.{Ends, RunsTo}
use Rattle.owner_calls.specs.Owned.Machines.{on_key_plan}
use Rattle.owner_calls.specs.Owned.Owned.{Holds, IsWordOf, found_by}
use Rattle.owner_calls.specs.declared.machines.OnKey.{OnKey}
use Rattle.owner_calls.specs.declared.machines.Stop.{Stop}
use Rattle.owner_calls.specs.declared.machines.Stop.TheVariants as stop
use Rattle.owner_calls.proofs.Owned.Owned.Answered as by
use Rattle.owner_calls.proofs.Owned.Owned.Keys.{StopsAt, going, it, stops_at, under_ends}
use Rattle.owner_asks.proofs.Asks.Asks.Begins.{BeginsSo, begins_so}
use Rattle.owner_asks.proofs.Asks.Asks.Ends.{AskedIt, start_so, stopped, come, asks_for, key_back, pair_back}
use Rattle.owner_asks.proofs.Asks.Asks.Questions.{asks_so}
use Rattle.owner_asks.proofs.Asks.Asks.Replied.{known_by, value_by, seeks_by, reply_taken, replied_undisturbed}
use Rattle.owner_asks.proofs.Asks.Asks.Runs.{HandedOut, InHand, HasAsked, HasCome, has_come}
use Rattle.owner_asks.proofs.Asks.Asks.Told as told
use Rattle.owner_asks.proofs.Asks.Asks.Undisturbed.{AsksFor, Undisturbed, UndisturbedAt}

-- about a pair, both, or about none
abbrev IsAlike : Option ℕ → Option ℕ → Type 0
IsAlike None None = Unit {0}
IsAlike (Some a) (Some b) = Unit {0}
IsAlike _ _ = ⊥

-- a question is about none, or about a pair, as the call asks
module _ {K Q : Type 0} (V : Type 0) (same : K → K → Bool) (hash : K → ℕ) (asks : Q → K → Bool) (setting : Setting) (slot : ℕ → ℕ) (c : Chart K) (seen : Blocks) where
  abbrev About : Asking → Option ℕ → Type 0
  About = AsksAbout V same hash asks setting slot c seen

  about_alike : (asked : Option ℕ) (a : Asking) (about : Option ℕ) → AsksFor asked (at.Asks a) → About a about → IsAlike asked about
  about_alike None (asking.Absent gap) about for of_it = subst (IsAlike None) (sym of_it) tt
  about_alike None (asking.Present word) about for of_it = absurd for
  about_alike None (asking.Fills word) about for of_it = absurd for
  about_alike None (asking.GivesUp word) about for of_it = absurd for
  about_alike (Some w) (asking.Present other) (Some n) for of_it = tt
  about_alike (Some w) (asking.Present other) None for of_it = absurd of_it
  about_alike (Some w) (asking.Absent gap) about for of_it = absurd for
  about_alike (Some w) (asking.Fills other) about for of_it = absurd for
  about_alike (Some w) (asking.GivesUp other) about for of_it = absurd for

-- the word that it asks about is that of a pair
some_word : (kind : Kind) (asked : Option ℕ) (a : Asking) → AsksFor asked (at.Asks a) → FitsAt kind.present kind.absent kind.takes (at.Asks a) → (word : ℕ) → asked ≡ Some word → word ≢ 0
some_word kind None a for fit word is = absurd (cc is)
some_word kind (Some w) (asking.Present other) for fit word is = λ zero. fit.1 (let e : w ≡ word = cc is in for ∙ e ∙ zero)
some_word kind (Some w) (asking.Absent gap) for fit word is = absurd for
some_word kind (Some w) (asking.Fills other) for fit word is = absurd for
some_word kind (Some w) (asking.GivesUp other) for fit word is = absurd for

insert_taken : {V : Type 0} (kinds : Takes) (asked : Option ℕ) (v : V) → IsTaken kinds asked (reply.Insert v) → kinds ≢ takes.Choices
insert_taken takes.Values asked v taken e = cc e
insert_taken takes.Changes asked v taken e = cc e
insert_taken takes.Nothing asked v taken e = cc e
insert_taken takes.Choices None v taken e = absurd taken
insert_taken takes.Choices (Some word) v taken e = absurd taken

module _ {K V : Type 0} (its : Option K) where
  knows_key : (kinds : Takes) → (kinds ≢ takes.Choices → (k : K) × (its ≡ Some k)) → (asked : Option ℕ) (said : MachineReply V) → IsTaken kinds asked said
      → (v : V) → known_by asked said ≡ Some v → (value_by said ≡ Some v) × (k : K) × (its ≡ Some k)
  knows_key kinds key None (reply.Insert w) taken v e = let k = key (insert_taken kinds None w taken) in (e, k.0, k.1)
  knows_key kinds key None reply.Remove taken v e = absurd (cc e)
  knows_key kinds key None reply.Abort taken v e = absurd (cc e)
  knows_key kinds key None reply.Yes taken v e = absurd (cc e)
  knows_key kinds key None reply.No taken v e = absurd (cc e)
  knows_key kinds key (Some word) said taken v e = absurd (cc e)

  -- it asks no more, but maybe about a pair where it was told what to do where there is none
  asks_no_more : {Q : Type 0} (m : Mem (Node K V)) (p : KeyCall K V Q) (asked : Option ℕ) (said : MachineReply V) (again : Option ℕ) (a : Asking) → AsksFor again (at.Asks a)
      → UndisturbedAt its (known_by asked said) (value_by said) (seeks_by asked said) m p (at.Asks a) → (asked ≡ None) × ((word : ℕ) × (again ≡ Some word))
  asks_no_more m p asked said (Some word) (asking.Present other) for point = (seeking asked said point.0, (word, refl))
    where
      seeking : (asked : Option ℕ) (said : MachineReply V) → seeks_by asked said ≡ true → asked ≡ None
      seeking None said e = refl
      seeking (Some word) said e = absurd (cc e)
  asks_no_more m p asked said None (asking.Absent gap) for point = absurd (never asked said point.0 point.2)
    where
      never : (asked : Option ℕ) (said : MachineReply V) → seeks_by asked said ≡ true → known_by asked said ≡ None → ⊥
      never None (reply.Insert v) e none = cc none
      never None reply.Remove e none = cc e
      never None reply.Abort e none = cc e
      never None reply.Yes e none = cc e
      never None reply.No e none = cc e
      never (Some word) said e none = cc e
  asks_no_more m p asked said None (asking.Present other) for point = absurd for
  asks_no_more m p asked said (Some word) (asking.Absent gap) for point = absurd for
  asks_no_more m p asked said None (asking.Fills other) for point = absurd for
  asks_no_more m p asked said (Some word) (asking.Fills other) for point = absurd for
  asks_no_more m p asked said None (asking.GivesUp other) for point = absurd for
  asks_no_more m p asked said (Some word) (asking.GivesUp other) for point = absurd for

module _ {K V Q S : Type 0} (asks : Q → K → Bool) (same : K → K → Bool) (hashes : S → K → ℕ) (setting : Setting) (kind : Kind) (its : Option K) (keys : K → Bool) (xs : List (K × V))
    (x : OnKey K V Q S) (m : Mem (Node K V)) (asked : Option ℕ) (p : Pauses asks same hashes setting kind its keys xs x m asked) (said : MachineReply V) (taken : IsTaken kind.takes asked said) where
  abbrev hash : K → ℕ
  hash = hashes x.hasher.now

  abbrev slot_of : ℕ → ℕ
  slot_of i = setting.slot

  abbrev h : Holds same hash setting p.before xs
  h = p.held

  abbrev given0 : Given K V
  given0 = IsTold kind its []

  facts : BeginsSo same hash asks setting slot_of h.lawful kind its keys p.call
  facts = begins_so same hash asks setting slot_of h.lawful kind its keys p.call p.begun

  started : StartsAs asks same hashes setting kind its keys xs x.hasher x m (Ok (stop.Asks asked))
  started = start_so asks same hashes setting kind its keys xs x.hasher p.before h p.call p.begun x m (Ok (stop.Asks asked)) p.runs

  pub s : AskedIt asks same hashes setting kind its keys xs x.hasher p.before h p.call p.begun x m asked
  s = stopped asks same hashes setting kind its keys xs x.hasher p.before h p.call p.begun x m (Ok (stop.Asks asked)) p.runs

  pub c : HasAsked its None None true m x asked
  c = come asks same hashes setting kind its keys xs x.hasher p.before h p.call p.begun x m (Ok (stop.Asks asked)) p.runs

  pub for : AsksFor asked (at.Asks s.asks_at)
  for = asks_for asks same hashes setting kind its keys xs x.hasher p.before h p.call p.begun x m asked s c

  abbrev q : KeyCall K V Q
  q = s.under.p

  pub call_is : x.call ≡ q
  call_is = ap (λ (y : OnKey K V Q S). y.call) s.under.is

  pub takes_is : q.replies.takes ≡ kind.takes
  takes_is = s.under.course.fit.2.takes_is

  abbrev going_on : CallOnKey K V Q
  going_on = going {Q = Q} {S = S} same asks hashes x.hasher setting h.lawful h.initial h.world.memory h.chart h.blocks h.rests.together.ground.map.map.rule keys given0 s.under.course.change q

  law : RepliesTaken V same hash asks setting slot_of s.under.course.c (seen_by s.under.course.blocks (s.under.course.sights (slot_of 0))) going_on s.asks_at
      (λ told. IsAlone same hash asks setting slot_of s.under.course.w s.under.course.c s.under.course.blocks s.under.course.sights (OnKeyOf told))
  law = replies_lead_on same hash asks setting slot_of h.lawful h.initial s.under.course.w s.under.course.c s.under.course.blocks s.under.course.sights going_on s.under.course.alone s.asks_at s.stands

  abbrev about : Option ℕ
  about = law.0.0

  abbrev given2 : Given K V
  given2 = IsTold kind its (told.only said about)

  -- the call, once it was told
  abbrev pub told_call : OnKey K V Q S
  told_call = record x { call = (replied x.call said).0 }

  under2 : by.UnderIt same asks hashes x.hasher setting p.before xs h keys given2 told_call m
  under2 = record {
    p = (replied q said).0;
    unstored = x.unstored;
    is = ap (λ (z : KeyCall K V Q). it {Q = Q} same asks hashes x.hasher setting h.lawful h.initial h.world.memory h.chart h.blocks h.rests.together.ground.map.map.rule keys given2 (replied z said).0 x.unstored) call_is;
    course = record {
      w = s.under.course.w;
      c = s.under.course.c;
      blocks = s.under.course.blocks;
      sights = s.under.course.sights;
      change = s.under.course.change;
      alone = subst (λ (r : Result Unit (MachineReply V)). IsAlone same hash asks setting slot_of s.under.course.w s.under.course.c s.under.course.blocks s.under.course.sights
          (OnKeyOf (record { keys = keys; pair = with_reply given0 about said r; began = h.chart.now; change = s.under.course.change; call = (replied q said).0 })))
          (reply_taken q said asked kind.takes takes_is taken s.asks_at s.stands for) (law.3 about law.0.1 said);
      memory = s.under.course.memory;
      runs = s.under.course.runs;
      counts = subst (λ (n : ℕ). HasAdded setting h.world.memory n s.under.course.w.memory) (sym (replies_count_nothing same hash asks setting slot_of q s.asks_at s.stands said)) s.under.course.counts;
      fit = replies_keep_the_kind kind.present kind.absent kind.takes q s.under.course.fit said;
      looks = s.under.course.looks;
      ends = λ bits few. key_told_as (IsForTheLast s.under.course.c) (IsTheLast s.under.course.c) (λ e. absurd (cc e)) q (s.under.course.ends bits few) said;
    };
  }

  -- its steps come to an end
  pub told_ends : Ends (on_key_plan asks same hashes) told_call m
  told_ends = under_ends same asks hashes x.hasher setting h.lawful h.initial h.world.memory h.chart h.blocks h.rests.together.ground.map.map.rule keys given2 told_call m under2

  pub stands_is : x.call.stands ≡ at.Asks s.asks_at
  stands_is = ap (λ (z : KeyCall K V Q). z.stands) call_is ∙ s.stands

  pub undisturbed2 : Undisturbed its (known_by asked said) (value_by said) (seeks_by asked said) m (replied x.call said).0
  undisturbed2 =
      replied_undisturbed its m x.call c.1 kind.takes (ap (λ (z : KeyCall K V Q). z.replies.takes) call_is ∙ takes_is) facts.has_key said asked taken s.asks_at stands_is for
      (some_word kind asked s.asks_at for (subst (FitsAt kind.present kind.absent kind.takes) s.stands s.under.course.fit.4))

  -- what it was told is so of what the map had
  as_none : found_by keys xs ≡ None → kind.absent ≡ missing.Asks → (m2 : Mem (Node K V)) (answer : KeyAnswer)
      → by.AnswersTo same asks hashes x.hasher setting p.before xs h keys (IsTold kind its (told.only said None)) m2 answer → AnswersAs same hash setting m2 keys xs its (RepliedThis keys xs said) answer
  as_none none absent m2 answers.Absent a = ((sym none, told.leaves_none said kind.absent kind.takes absent a.1), a.0, a.2)
  as_none none absent m2 (answers.Found word) a = absurd (let e = a.1 in cc (e, none))
  as_none none absent m2 (answers.Stored word) a = (a.1, a.2, a.3.0, (sym none, told.stores_none said a.2 a.3.1), a.0, a.4, a.5)
  as_none none absent m2 (answers.Replaced old new) a = absurd (let e = a.1 in cc (e, none))
  as_none none absent m2 (answers.Removed word) a = absurd (let e = a.1 in cc (e, none))

  as_some : (y : K × V) → found_by keys xs ≡ Some y → kind.present ≡ there.Asks → (n : ℕ) (m2 : Mem (Node K V)) (answer : KeyAnswer)
      → by.AnswersTo same asks hashes x.hasher setting p.before xs h keys (IsTold kind its (told.only said (Some n))) m2 answer → AnswersAs same hash setting m2 keys xs its (RepliedThis keys xs said) answer
  as_some y some present n m2 answers.Absent a = absurd (let e = a.0 in cc (e, some))
  as_some y some present n m2 (answers.Found word) a = (a.0, (sym a.1, told.leaves_pair said n a.3 kind.present kind.takes present a.4), a.1, a.2, a.5)
  as_some y some present n m2 (answers.Stored word) a = absurd (let e = a.0 in cc (e, some))
  as_some y some present n m2 (answers.Replaced old new) a = (a.0, a.3, a.4, a.6.0, (sym a.1, told.stores_pair said n a.5 a.4 a.6.1), a.1, a.2, a.7, a.8, a.9)
  as_some y some present n m2 (answers.Removed word) a = (a.0, (sym a.1, told.removes_pair said n a.3 a.4), a.1, a.2, a.5, a.6)

  refused_none : found_by keys xs ≡ None → (fault : Fault) → FaultFits kind.present kind.absent kind.takes fault → (fault ≡ RemoveNothing → last_reply None (told.only said None) ≡ Some reply.Remove)
      → IsRoom fault ⊎ ((fault ≡ RemoveNothing) × RepliedThis keys xs said None reply.Remove × (found_by keys xs ≡ None))
  refused_none none fault (inl fits) removes = inl fits.1
  refused_none none fault (inr fits) removes = inr (fits.2, (sym none, told.removes_none said (removes fits.2)), none)

  refused_some : (n : ℕ) (fault : Fault) → FaultFits kind.present kind.absent kind.takes fault → (fault ≡ RemoveNothing → last_reply None (told.only said (Some n)) ≡ Some reply.Remove)
      → IsRoom fault ⊎ ((fault ≡ RemoveNothing) × RepliedThis keys xs said None reply.Remove × (found_by keys xs ≡ None))
  refused_some n fault (inl fits) removes = inl fits.1
  refused_some n fault (inr fits) removes = absurd (told.never_none said n (removes fits.2))

  module _ (z : OnKey K V Q S) (m2 : Mem (Node K V)) (result : Result Stop Fault) (runs : RunsTo (on_key_plan asks same hashes) told_call m z m2 result) where
    come2 : HasCome its (known_by asked said) (value_by said) (seeks_by asked said) m2 z result
    come2 =
        has_come its (known_by asked said) (value_by said) (seeks_by asked said) (knows_key its kind.takes facts.has_key asked said taken) asks same hashes told_call m z m2 result runs
        (inr (c.0, undisturbed2))

    abbrev Stopped2 : Result Stop Fault → Type 0
    Stopped2 = StopsAt {Q = Q} same asks hashes x.hasher setting h.lawful h.initial h.world.memory h.chart h.blocks h.rests.together.ground.map.map.rule keys given2 z m2

    stopped2 : Stopped2 result
    stopped2 = stops_at same asks hashes x.hasher setting h.lawful h.initial h.world.memory h.chart h.blocks h.rests.together.ground.map.map.rule keys given2 told_call m z m2 result runs under2

  -- what it comes to
  abbrev pub EndsSo : Mem (Node K V) → Result Stop Fault → Type 0
  EndsSo m2 (Ok (stop.Answered answer)) = AnswersAs same hash setting m2 keys xs its (RepliedThis keys xs said) answer
  EndsSo m2 (Ok (stop.Asks again)) = ⊥
  EndsSo m2 (Err fault) = RefusedAs same hash setting m2 keys xs its (RepliedThis keys xs said) fault

  -- it asks no more
  never_again : (z : OnKey K V Q S) (m2 : Mem (Node K V)) (again : Option ℕ) → RunsTo (on_key_plan asks same hashes) told_call m z m2 (Ok (stop.Asks again)) → ⊥
  never_again z m2 again runs =
      let s2 = stopped2 z m2 (Ok (stop.Asks again)) runs in
      let c2 = come2 z m2 (Ok (stop.Asks again)) runs in
      let here = ap (λ (y : OnKey K V Q S). y.call.stands) s2.under.is ∙ s2.stands in
      let for2 = subst (AsksFor again) here c2.2 in
      let none = asks_no_more its m2 z.call asked said again s2.asks_at for2
      (subst (UndisturbedAt its (known_by asked said) (value_by said) (seeks_by asked said) m2 z.call) here c2.1.point) in
      apart again none.1.0 none.1.1 (asks_so same asks hashes x.hasher setting p.before xs h keys given2 facts.one z m2 again s2 for2) asked none.0 started.2
    where
      apart : (again : Option ℕ) (word : ℕ) → again ≡ Some word → IsWordOf keys m2 xs again → (asked : Option ℕ) → asked ≡ None → IsWordOf keys m xs asked → ⊥
      apart (Some w) word is some None none absent = let e = some.3 in cc (e, absent)
      apart None word is some asked none absent = cc is
      apart (Some w) word is some (Some w2) none absent = cc none

  answers_by : (m2 : Mem (Node K V)) (answer : KeyAnswer) (o n : Option ℕ) → IsWordOf keys m xs o → AsksOf kind o → IsAlike o n
      → by.AnswersTo same asks hashes x.hasher setting p.before xs h keys (IsTold kind its (told.only said n)) m2 answer → AnswersAs same hash setting m2 keys xs its (RepliedThis keys xs said) answer
  answers_by m2 answer None None word ask alike a = as_none word ask m2 answer a
  answers_by m2 answer (Some w) (Some n) word ask alike a = as_some (word.0, word.1) word.3 ask n m2 answer a
  answers_by m2 answer None (Some n) word ask alike a = absurd alike
  answers_by m2 answer (Some w) None word ask alike a = absurd alike

  refused_by : (fault : Fault) (o n : Option ℕ) → IsWordOf keys m xs o → IsAlike o n → FaultFits kind.present kind.absent kind.takes fault
      → (fault ≡ RemoveNothing → last_reply None (told.only said n) ≡ Some reply.Remove)
      → IsRoom fault ⊎ ((fault ≡ RemoveNothing) × RepliedThis keys xs said None reply.Remove × (found_by keys xs ≡ None))
  refused_by fault None None word alike fits removes = refused_none word fault fits removes
  refused_by fault (Some w) (Some n) word alike fits removes = refused_some n fault fits removes
  refused_by fault None (Some n) word alike fits removes = absurd alike
  refused_by fault (Some w) None word alike fits removes = absurd alike

  alike : IsAlike asked about
  alike = about_alike V same hash asks setting slot_of s.under.course.c (seen_by s.under.course.blocks (s.under.course.sights (slot_of 0))) asked s.asks_at about for law.0.1

  pub told_so : (z : OnKey K V Q S) (m2 : Mem (Node K V)) (result : Result Stop Fault) → RunsTo (on_key_plan asks same hashes) told_call m z m2 result → EndsSo m2 result
  told_so z m2 (Ok (stop.Answered answer)) runs =
      answers_by m2 answer asked about started.2 started.3 alike
      (by.answered_it same asks hashes x.hasher setting p.before xs h keys given2 facts.one facts.named m2 answer (stopped2 z m2 (Ok (stop.Answered answer)) runs))
  told_so z m2 (Ok (stop.Asks again)) runs = never_again z m2 again runs
  told_so z m2 (Err fault) runs =
      let s2 = stopped2 z m2 (Err fault) runs in (
        refused_by fault asked about started.2 alike s2.1.0 s2.1.1,
        by.refused_it same asks hashes x.hasher setting p.before xs h keys given2 m2 fault s2.0,
        by.refused_ends same asks hashes x.hasher setting p.before xs h keys given2 m2 fault s2.0,
      )

  -- what comes back where it is refused
  pub told_back : (z : OnKey K V Q S) (m2 : Mem (Node K V)) (fault : Fault) → RunsTo (on_key_plan asks same hashes) told_call m z m2 (Err fault) → (k : K) → its ≡ Some k → HasKeyBack z k
  told_back z m2 fault runs = key_back its (known_by asked said) (value_by said) z (come2 z m2 (Err fault) runs)

  pub told_pair_back : asked ≡ None → (v : V) → said ≡ reply.Insert v → (z : OnKey K V Q S) (m2 : Mem (Node K V)) (fault : Fault)
      → RunsTo (on_key_plan asks same hashes) told_call m z m2 (Err fault) → (k : K) → its ≡ Some k → HasPairBack z k v
  told_pair_back none v is z m2 fault runs =
      pair_back its v z
      (subst (λ (r : MachineReply V). HandedOut its (known_by None r) (value_by r) true z ⊎ InHand its (known_by None r) (value_by r) true z) is
      (subst (λ (o : Option ℕ). HandedOut its (known_by o said) (value_by said) true z ⊎ InHand its (known_by o said) (value_by said) true z) none (come2 z m2 (Err fault) runs)))
