-- A call that asks takes what it is told: it was told just that then.
use Rattle.std.specs.Prelude.{◌≡◌, ◌≢◌, ℕ, ◌==◌, Bool, true, false, List, ◌∷◌, ◌++◌, Option, Some, None, Ok, if◌then◌else◌}
use Rattle.std.proofs.Common.{refl, ap, subst, ◌∙◌, inl, inr}
use Rattle.run_shows.specs.Given.SeizeWorld.{World}
use Rattle.run_shows.specs.Given.TablesDeclared.node.Node.{Node}
use Rattle.run_shows.specs.Given.TablesDeclared.marks.TheConstants.{TOMBSTONE}
use Rattle.run_shows.specs.Given.RawCallAsks.{with_absent, with_present, absent_replied, present_replied, replied_at, replied}
use Rattle.run_shows.specs.Given.RawCallPoints.{going, over, answering, burying, at_gap}
use Rattle.run_shows.specs.Given.RawDeclared.machines.answer.Called.{Called}
use Rattle.run_shows.specs.Given.RawDeclared.machines.answer.End.TheVariants as ends
use Rattle.run_shows.specs.Given.RawDeclared.machines.answer.KeyAnswer.TheVariants as answers
use Rattle.run_shows.specs.Given.RawDeclared.machines.asking.Told.TheVariants as tells
use Rattle.run_shows.specs.Given.SeizeWordsDeclared.fault.Fault.TheVariants.{RemoveNothing}
use Rattle.run_shows.specs.Given.RawDeclared.machines.asking.Asking.{Asking as AskingAt}
use Rattle.run_shows.specs.Given.RawDeclared.machines.asking.Asking.TheVariants as asking
use Rattle.run_shows.specs.Given.RawDeclared.machines.asking.Gap.{Gap}
use Rattle.run_shows.specs.Given.RawDeclared.machines.asking.Gap.TheVariants as gaps
use Rattle.run_shows.specs.Given.RawDeclared.machines.asking.MachineReply.{MachineReply}
use Rattle.run_shows.specs.Given.RawDeclared.machines.asking.MachineReply.TheVariants as reply
use Rattle.run_shows.specs.Given.RawDeclared.machines.asking.Takes.{Takes}
use Rattle.run_shows.specs.Given.RawDeclared.machines.asking.Takes.TheVariants as takes
use Rattle.run_shows.specs.Given.RawDeclared.machines.call.KeyCall.{KeyCall}
use Rattle.run_shows.specs.Given.RawDeclared.machines.call.Calling.{Calling}
use Rattle.run_shows.specs.Given.RawDeclared.machines.call.Calling.TheVariants as at
use Rattle.run_shows.specs.Given.TablesDeclared.node.Node.TheVariants as node
use Rattle.run_shows.specs.Given.RunsDeclared.call.OneKey.{OneKey}
use Rattle.run_shows.specs.Given.RunsDeclared.call.OneKey.TheVariants.{Get, GetKeyValue, ContainsKey, Insert, TryInsert, TryInsertWith, GetOrInsert, GetOrInsertWith, Update, UpdateOrInsert, UpdateOrInsertWith, Compute, Remove, RemoveEntry, RemoveIf}
use Rattle.run_shows.specs.Given.RuleWords.{Blocks}
use Rattle.run_shows.specs.Given.PointsTold.{IsRowOfCall}
use Rattle.run_shows.specs.Given.CallersAsked.{Asked, last_reply, replies_before}
use Rattle.run_shows.specs.Given.CallersKind.{Kind, gets, removes, inserts, tries_to_insert, updates_or_inserts}
use Rattle.run_shows.specs.Given.CallersPairs.{Given, Begun, IsTold, with_reply, KeepsGiven}
use Rattle.run_shows.specs.Given.CallersSights.{seen_by}
use Rattle.run_shows.specs.Given.CallersTogether.{CallOnKey, OnKey, Knows, IsAtPoint}
use Rattle.run_shows.specs.Given.FinishesMaps.{Standing}
use Rattle.run_places.specs.Hands.Asked.{given_by, KnowsFirst}
use Rattle.run_places.proofs.Hands.Replies.{told_first}
use Rattle.run_shows.specs.Scenes.Scene.{slot_of}

module _ {K V Q : Type 0} where
  -- one that never asks takes none
  absent_never : (t : Takes) (c : KeyCall K V Q) (gap : Gap) (told : MachineReply V) → t ≡ takes.Nothing → (absent_replied t c gap told).1 ≡ Ok tt → ⊥
  absent_never takes.Nothing c gap told never taken = cc taken
  absent_never takes.Values c gap told never taken = cc never
  absent_never takes.Changes c gap told never taken = cc never
  absent_never takes.Choices c gap told never taken = cc never

  present_never : (t : Takes) (c : KeyCall K V Q) (word : ℕ) (told : MachineReply V) → t ≡ takes.Nothing → (present_replied t c word told).1 ≡ Ok tt → ⊥
  present_never takes.Nothing c word told never taken = cc taken
  present_never takes.Values c word told never taken = cc never
  present_never takes.Changes c word told never taken = cc never
  present_never takes.Choices c word told never taken = cc never

  never_at : (stands : Calling) (c : KeyCall K V Q) (told : MachineReply V) → c.replies.takes ≡ takes.Nothing → (replied_at stands c told).1 ≡ Ok tt → ⊥
  never_at (at.Asks (asking.Absent gap)) c told never taken = absent_never c.replies.takes c gap told never taken
  never_at (at.Asks (asking.Present word)) c told never taken = present_never c.replies.takes c word told never taken
  never_at (at.Asks (asking.Fills word)) c told never taken = cc taken
  never_at (at.Asks (asking.GivesUp word)) c told never taken = cc taken
  never_at at.Makes c told never taken = cc taken
  never_at (at.Looks lookup) c told never taken = cc taken
  never_at at.Roots c told never taken = cc taken
  never_at at.Probes c told never taken = cc taken
  never_at (at.Tries word new) c told never taken = cc taken
  never_at at.Nexts c told never taken = cc taken
  never_at (at.Firsts making) c told never taken = cc taken
  never_at (at.Allocs making) c told never taken = cc taken
  never_at (at.Helps copier goal) c told never taken = cc taken
  never_at (at.Copies copier) c told never taken = cc taken
  never_at (at.Counts removed) c told never taken = cc taken
  never_at (at.Disposes dispose answer) c told never taken = cc taken
  never_at (at.Drops end) c told never taken = cc taken
  never_at (at.Over end) c told never taken = cc taken

  pub never_takes : (c : KeyCall K V Q) (told : MachineReply V) → c.replies.takes ≡ takes.Nothing → (replied c told).1 ≡ Ok tt → ⊥
  never_takes c told never taken = never_at c.stands c told never taken

  -- one of two ways that lead on
  pick : (q : Bool) (x y : KeyCall K V Q × Called (Node K V)) (s : Calling) → x.0.stands ≢ s → y.0.stands ≢ s → (if q then x else y).0.stands ≢ s
  pick true x y s nx ny e = nx e
  pick false x y s nx ny e = ny e

  gap_leaves : (gap : Gap) (c : KeyCall K V Q) (value : V) → (at_gap gap (with_absent c value)).0.stands ≢ at.Asks (asking.Absent gap)
  gap_leaves gaps.NoTable c value e = cc e
  gap_leaves gaps.Free c value e = cc e
  gap_leaves gaps.Past c value e = cc e
  gap_leaves gaps.Last c value e = cc e

  -- what is taken leads on from the question
  absent_leaves : (t : Takes) (c : KeyCall K V Q) (gap : Gap) (told : MachineReply V) → (absent_replied t c gap told).1 ≡ Ok tt → (absent_replied t c gap told).0.stands ≢ at.Asks (asking.Absent gap)
  absent_leaves takes.Nothing c gap told taken e = cc taken
  absent_leaves takes.Choices c gap told taken e = cc taken
  absent_leaves takes.Values c gap (reply.Insert value) taken e = gap_leaves gap c value e
  absent_leaves takes.Values c gap reply.Remove taken e = cc taken
  absent_leaves takes.Values c gap reply.Abort taken e = cc taken
  absent_leaves takes.Values c gap reply.Yes taken e = cc taken
  absent_leaves takes.Values c gap reply.No taken e = cc taken
  absent_leaves takes.Changes c gap (reply.Insert value) taken e = gap_leaves gap c value e
  absent_leaves takes.Changes c gap reply.Remove taken e =
      pick (c.own == 0) (over c (ends.Refused RemoveNothing)) (going c (at.Drops (ends.Refused RemoveNothing))) (at.Asks (asking.Absent gap)) (λ z. cc z) (λ z. cc z) e
  absent_leaves takes.Changes c gap reply.Abort taken e =
      pick (c.own == 0) (over c (ends.Answered answers.Absent)) (going c (at.Drops (ends.Answered answers.Absent))) (at.Asks (asking.Absent gap)) (λ z. cc z) (λ z. cc z) e
  absent_leaves takes.Changes c gap reply.Yes taken e = cc taken
  absent_leaves takes.Changes c gap reply.No taken e = cc taken

  buried_leaves : (c : KeyCall K V Q) (word : ℕ) → (burying c word).0.stands ≢ at.Asks (asking.Present word)
  buried_leaves c word = pick (c.own == 0) (going c (at.Tries word TOMBSTONE)) (going c (at.Asks (asking.GivesUp word))) (at.Asks (asking.Present word)) (λ z. cc z) (λ z. cc z)

  found_leaves : (c : KeyCall K V Q) (word : ℕ) → (answering c (answers.Found word)).0.stands ≢ at.Asks (asking.Present word)
  found_leaves c word =
      pick (c.own == 0) (over c (ends.Answered (answers.Found word))) (going c (at.Drops (ends.Answered (answers.Found word)))) (at.Asks (asking.Present word)) (λ z. cc z) (λ z. cc z)

  present_leaves : (t : Takes) (c : KeyCall K V Q) (word : ℕ) (told : MachineReply V) → (present_replied t c word told).1 ≡ Ok tt → (present_replied t c word told).0.stands ≢ at.Asks (asking.Present word)
  present_leaves takes.Nothing c word told taken e = cc taken
  present_leaves takes.Values c word (reply.Insert value) taken e = cc e
  present_leaves takes.Values c word reply.Remove taken e = cc taken
  present_leaves takes.Values c word reply.Abort taken e = cc taken
  present_leaves takes.Values c word reply.Yes taken e = cc taken
  present_leaves takes.Values c word reply.No taken e = cc taken
  present_leaves takes.Changes c word (reply.Insert value) taken e = cc e
  present_leaves takes.Changes c word reply.Remove taken e = buried_leaves (with_present c word tells.Removes) word e
  present_leaves takes.Changes c word reply.Abort taken e = found_leaves c word e
  present_leaves takes.Changes c word reply.Yes taken e = cc taken
  present_leaves takes.Changes c word reply.No taken e = cc taken
  present_leaves takes.Choices c word (reply.Insert value) taken e = cc taken
  present_leaves takes.Choices c word reply.Remove taken e = cc taken
  present_leaves takes.Choices c word reply.Abort taken e = cc taken
  present_leaves takes.Choices c word reply.Yes taken e = buried_leaves c word e
  present_leaves takes.Choices c word reply.No taken e = found_leaves c word e

  -- so a call that has taken a reply stands elsewhere
  pub asked_leaves : (c : KeyCall K V Q) (it : AskingAt) (told : MachineReply V) → c.stands ≡ at.Asks it → (replied c told).1 ≡ Ok tt → (replied c told).0 ≡ c → ⊥
  asked_leaves c it told stands taken same =
      led it (subst (λ (x : Calling). (replied_at x c told).1 ≡ Ok tt) stands taken) (subst (λ (x : Calling). (replied_at x c told).0.stands ≡ at.Asks it) stands (ap (λ (x : KeyCall K V Q). x.stands) same ∙ stands))
    where
      led : (y : AskingAt) → (replied_at (at.Asks y) c told).1 ≡ Ok tt → (replied_at (at.Asks y) c told).0.stands ≡ at.Asks y → ⊥
      led (asking.Absent gap) taken e = absent_leaves c.replies.takes c gap told taken e
      led (asking.Present word) taken e = present_leaves c.replies.takes c word told taken e
      led (asking.Fills word) taken e = cc taken
      led (asking.GivesUp word) taken e = cc taken

module _ {K V : Type 0} where
  -- a reply that was taken is what it was told last
  pub and_given : (one : OneKey K V) (asked : List (Asked V)) (about : Option ℕ) (told : MachineReply V) → ((kind : Kind) (pair : Option (Node K V)) → given_by one asked ≡ Begun kind pair → ⊥)
      → with_reply (given_by one asked) about told (Ok tt) ≡ given_by one (record { about = about; told = told } ∷ asked)
  and_given (Get k) asked about told never = absurd (never gets None refl)
  and_given (GetKeyValue k) asked about told never = absurd (never gets None refl)
  and_given (ContainsKey k) asked about told never = absurd (never gets None refl)
  and_given (Insert k v) asked about told never = absurd (never inserts (Some (node.Pair k v)) refl)
  and_given (TryInsert k v) asked about told never = absurd (never tries_to_insert (Some (node.Pair k v)) refl)
  and_given (TryInsertWith k) asked about told never = refl
  and_given (GetOrInsert k v) asked about told never = absurd (never tries_to_insert (Some (node.Pair k v)) refl)
  and_given (GetOrInsertWith k) asked about told never = refl
  and_given (Update k) asked about told never = refl
  and_given (UpdateOrInsert k v) asked about told never = refl
  and_given (UpdateOrInsertWith k) asked about told never = refl
  and_given (Compute k) asked about told never = refl
  and_given (Remove k) asked about told never = absurd (never removes None refl)
  and_given (RemoveEntry k) asked about told never = absurd (never removes None refl)
  and_given (RemoveIf k) asked about told never = refl

-- what a call knows where it asks
module _ {K V : Type 0} (same : K → K → Bool) (s : Standing K) (w : World (Node K V)) (i : ℕ) (u : CallOnKey K V K) (it : AskingAt) (stands : u.call.stands ≡ at.Asks it)
    (knows : IsAtPoint V same s.hash same s.setting slot_of w s.chart (seen_by s.blocks (s.sights (slot_of i))) i (OnKey u)) where
  abbrev seen : Blocks
  seen = seen_by s.blocks (s.sights (slot_of i))

  its : Knows V same s.hash same s.setting slot_of w s.chart seen i u u.call
  its = elim knows as (λ _. Knows V same s.hash same s.setting slot_of w s.chart seen i u u.call) [
    | inl k ↦ k.1
    | inr k ↦ absurd (subst IsRowOfCall stands k.1)
  ]

  keeps : KeepsGiven s.hash w.memory s.chart seen u.keys u.pair u.change u.call (at.Asks it)
  keeps = subst (KeepsGiven s.hash w.memory s.chart seen u.keys u.pair u.change u.call) stands its.pair

  -- one that was told from the beginning what to store never takes anything
  pub not_begun : (told : MachineReply V) → (replied u.call told).1 ≡ Ok tt → (kind : Kind) (pair : Option (Node K V)) → u.pair ≡ Begun kind pair → ⊥
  not_begun told taken kind pair is =
      never_takes u.call told (subst (λ (g : Given K V). KeepsGiven s.hash w.memory s.chart seen u.keys g u.change u.call (at.Asks it)) is keeps).0 taken

  -- one that knows what to store where its key is missing does not ask that
  pub not_first : (gap : Gap) → it ≡ asking.Absent gap → (one : OneKey K V) (asked : List (Asked V)) → u.pair ≡ given_by one asked → KnowsFirst one → last_reply None asked ≡ None → ⊥
  not_first gap is (UpdateOrInsert k v) asked given first none =
      let kept = subst (λ (x : AskingAt). KeepsGiven s.hash w.memory s.chart seen u.keys (IsTold updates_or_inserts (Some k) (asked ++ replies_before (Some v))) u.change u.call (at.Asks x)) is
      (subst (λ (g : Given K V). KeepsGiven s.hash w.memory s.chart seen u.keys g u.change u.call (at.Asks it)) given keeps) in
      let untold = kept.0.0.absent_first kept.0.1 in
      let told = told_first None asked (replies_before (Some v)) none in
      cc (untold, told)
  not_first gap is (Get k) asked given first none = first
  not_first gap is (GetKeyValue k) asked given first none = first
  not_first gap is (ContainsKey k) asked given first none = first
  not_first gap is (Insert k v) asked given first none = first
  not_first gap is (TryInsert k v) asked given first none = first
  not_first gap is (TryInsertWith k) asked given first none = first
  not_first gap is (GetOrInsert k v) asked given first none = first
  not_first gap is (GetOrInsertWith k) asked given first none = first
  not_first gap is (Update k) asked given first none = first
  not_first gap is (UpdateOrInsertWith k) asked given first none = first
  not_first gap is (Compute k) asked given first none = first
  not_first gap is (Remove k) asked given first none = first
  not_first gap is (RemoveEntry k) asked given first none = first
  not_first gap is (RemoveIf k) asked given first none = first
