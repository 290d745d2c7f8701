-- A call on one key that makes its own block has a value for it: it began with one, or was told one.
use Rattle.std.specs.Prelude.{◌≡◌, ℕ, ◌==◌, ◌||◌, Bool, true, false, List, [], ◌∷◌, Option, Some, None, ◌⊎◌, if◌then◌else◌}
use Rattle.std.proofs.Common.{refl, ap, sym, ◌∙◌, inl, inr}
use Rattle.run_debts.specs.Given.SeizeWordsMem.{Mem}
use Rattle.run_debts.specs.Given.SeizeWorld.{World}
use Rattle.run_debts.specs.Given.TablesDeclared.node.Node.{Node}
use Rattle.run_debts.specs.Given.TablesDeclared.setting.Setting.{Setting}
use Rattle.owner_calls.specs.Given.RawCall as calls
use Rattle.owner_calls.specs.Given.RawCallFills.{fills_with}
use Rattle.owner_calls.specs.Given.RawReplies.{value_replied, value_for}
use Rattle.run_debts.specs.Given.RawDeclared.machines.asking.Asking.TheVariants as asking
use Rattle.run_debts.specs.Given.RawDeclared.machines.asking.MachineReply.TheVariants as reply
use Rattle.run_debts.specs.Given.RawDeclared.machines.asking.Takes.{Takes}
use Rattle.run_debts.specs.Given.RawDeclared.machines.asking.Takes.TheVariants as takes
use Rattle.run_debts.specs.Given.RawDeclared.machines.asking.Told.{Told}
use Rattle.run_debts.specs.Given.RawDeclared.machines.asking.Told.TheVariants as tells
use Rattle.run_debts.specs.Given.RawDeclared.machines.answer.Called.{Called}
use Rattle.run_debts.specs.Given.RawDeclared.machines.call.Calling.{Calling}
use Rattle.run_debts.specs.Given.RawDeclared.machines.call.Calling.TheVariants as at
use Rattle.run_debts.specs.Given.RawDeclared.machines.call.KeyCall.{KeyCall}
use Rattle.run_debts.specs.Given.RawDeclared.machines.answer.Missing.{Missing}
use Rattle.run_debts.specs.Given.RawDeclared.machines.answer.Missing.TheVariants as missing
use Rattle.run_debts.specs.Given.RunsDeclared.call.Call.{Call}
use Rattle.run_debts.specs.Given.RunsDeclared.call.Call.TheVariants as call
use Rattle.run_debts.specs.Given.RunsDeclared.call.OneKey.{OneKey}
use Rattle.run_debts.specs.Given.RunsDeclared.call.OneKey.TheVariants.{Get, GetKeyValue, ContainsKey, Insert, TryInsert, TryInsertWith, GetOrInsert, GetOrInsertWith, Update, UpdateOrInsert, UpdateOrInsertWith, Compute, Remove, RemoveEntry, RemoveIf}
use Rattle.run_debts.specs.Given.RunsDeclared.call.Reply.{Reply}
use Rattle.run_debts.specs.Given.RunsDeclared.call.Reply.TheVariants.{Gives, Removes, Aborts, Decides}
use Rattle.run_debts.specs.Given.SchedulesGrowing.{has_value_for}
use Rattle.run_debts.specs.Given.SchedulesMoment.{UnderWay as CallThere}
use Rattle.run_debts.specs.Given.SchedulesSequential.{has_value}
use Rattle.run_debts.specs.Given.SchedulesViews.{is_gift, has_gift}
use Rattle.owner_calls.specs.Given.RuleChart.{Chart}
use Rattle.owner_calls.specs.Given.RuleWords.{Blocks}
use Rattle.owner_calls.specs.Given.PointsFactsCalls.{ByReply, holding, Change, CallingFacts}
use Rattle.owner_calls.specs.Given.PointsTold.{IsRowOfCall}
use Rattle.owner_calls.specs.Given.LateLateCalls.{SupersededCalling}
use Rattle.owner_calls.specs.Given.CallersAsked.{Asked, is_about, last_reply}
use Rattle.owner_calls.specs.Given.CallersKind.{Kind}
use Rattle.owner_calls.specs.Given.CallersPairs.{Given, Begun, IsTold, KeepsGiven}
use Rattle.owner_calls.specs.Given.CallersTogether.{CallOnKey, OnKey, in_slot, Knows}
use Rattle.run_debts.specs.Given.EffectsDeclared.changed.Changed.{Changed}
use Rattle.run_debts.specs.Given.EffectsDeclared.changed.Changed.TheVariants as changed
use Rattle.run_debts.specs.Given.TellerTells.{StepsObserved}
use Rattle.run_debts.specs.Given.EffectsKnown.{Known}
use Rattle.run_debts.specs.Given.FollowsCalls.{IsCalled}
use Rattle.run_debts.specs.Given.HandsAsked.{reply_to_machine, given_by, AreReplies, IsAskedAs}
use Rattle.run_blocks.proofs.Owes.Walks.{IsToOwn}
use Rattle.run_debts.proofs.Given.General.{or_either as either_so}

gives : {V : Type 0} (r : Reply V) (value : V) → reply_to_machine r ≡ reply.Insert value → is_gift r ≡ true
gives (Gives w) value e = refl
gives Removes value e = absurd (cc e)
gives (Aborts w) value e = absurd (cc e)
gives (Decides true) value e = absurd (cc e)
gives (Decides false) value e = absurd (cc e)

-- a value that a call was told is a gift
pub gift_told : {V : Type 0} (number : ℕ → ℕ) (stored : ℕ) (asked : List (Asked V)) (replies : List (Option ℕ × Reply V)) (about : Option ℕ) (value : V) → AreReplies number stored asked replies
    → last_reply about asked ≡ Some (reply.Insert value) → has_gift replies ≡ true
gift_told number stored [] replies about value are e = absurd (cc e)
gift_told number stored (a ∷ asked) [] about value are e = absurd are
gift_told number stored (a ∷ asked) (r ∷ replies) about value are e = by (is_about a.about about) e (λ later. gift_told number stored asked replies about value are.2 later)
  where
    by : (q : Bool) → (if q then Some a.told else last_reply about asked) ≡ Some (reply.Insert value) → (last_reply about asked ≡ Some (reply.Insert value) → has_gift replies ≡ true)
        → (is_gift r.1 || has_gift replies) ≡ true
    by true is further = either_so (is_gift r.1) (has_gift replies) (inl (gives r.1 value (sym are.1 ∙ (let told : a.told ≡ reply.Insert value = cc is in told))))
    by false is further = either_so (is_gift r.1) (has_gift replies) (inr (further is))

module _ {K V : Type 0} where
  -- it began with a pair, or was told a value for its key
  abbrev pub HasGiven : Given K V → Type 0
  HasGiven g =
      ((kind : Kind) × (pair : Node K V) × (g ≡ Begun kind (Some pair)))
      ⊎ ((kind : Kind) × (key : K) × (asked : List (Asked V)) × (about : Option ℕ) × (value : V) × (g ≡ IsTold kind (Some key) asked) × (last_reply about asked ≡ Some (reply.Insert value)))

  -- by what is called

  begun_valued : (one : OneKey K V) (asked : List (Asked V)) (kind : Kind) (pair : Node K V) → ◌≡◌ {A = Given K V} (Begun kind (Some pair)) (given_by one asked) → (told : Bool) → has_value one told ≡ true
  begun_valued (Insert k v) asked kind pair e told = refl
  begun_valued (TryInsert k v) asked kind pair e told = refl
  begun_valued (GetOrInsert k v) asked kind pair e told = refl
  begun_valued (UpdateOrInsert k v) asked kind pair e told = refl
  begun_valued (Get k) asked kind pair e told = absurd (cc e)
  begun_valued (GetKeyValue k) asked kind pair e told = absurd (cc e)
  begun_valued (ContainsKey k) asked kind pair e told = absurd (cc e)
  begun_valued (TryInsertWith k) asked kind pair e told = absurd (cc e)
  begun_valued (GetOrInsertWith k) asked kind pair e told = absurd (cc e)
  begun_valued (Update k) asked kind pair e told = absurd (cc e)
  begun_valued (UpdateOrInsertWith k) asked kind pair e told = absurd (cc e)
  begun_valued (Compute k) asked kind pair e told = absurd (cc e)
  begun_valued (Remove k) asked kind pair e told = absurd (cc e)
  begun_valued (RemoveEntry k) asked kind pair e told = absurd (cc e)
  begun_valued (RemoveIf k) asked kind pair e told = absurd (cc e)

  module _ (number : ℕ → ℕ) (stored : ℕ) (replies : List (Option ℕ × Reply V)) (kind : Kind) (key : K) (asked : List (Asked V)) (about : Option ℕ) (value : V)
      (was : last_reply about asked ≡ Some (reply.Insert value)) where
    abbrev Its : Given K V
    Its = IsTold kind (Some key) asked

    same_told : (of : List (Asked V)) → AreReplies number stored of replies → asked ≡ of → has_gift replies ≡ true
    same_told of are e = gift_told number stored of replies about value are (ap (last_reply about) (sym e) ∙ was)

    told_valued : (one : OneKey K V) (of : List (Asked V)) → AreReplies number stored of replies → Its ≡ given_by one of → has_value one (has_gift replies) ≡ true
    told_valued (Insert k v) of are e = refl
    told_valued (TryInsert k v) of are e = refl
    told_valued (GetOrInsert k v) of are e = refl
    told_valued (UpdateOrInsert k v) of are e = refl
    told_valued (TryInsertWith k) of are e = same_told of are (let one : asked ≡ of = cc e in one)
    told_valued (GetOrInsertWith k) of are e = same_told of are (let one : asked ≡ of = cc e in one)
    told_valued (Update k) of are e = same_told of are (let one : asked ≡ of = cc e in one)
    told_valued (UpdateOrInsertWith k) of are e = same_told of are (let one : asked ≡ of = cc e in one)
    told_valued (Compute k) of are e = same_told of are (let one : asked ≡ of = cc e in one)
    told_valued (Get k) of are e = absurd (cc e)
    told_valued (GetKeyValue k) of are e = absurd (cc e)
    told_valued (ContainsKey k) of are e = absurd (cc e)
    told_valued (Remove k) of are e = absurd (cc e)
    told_valued (RemoveEntry k) of are e = absurd (cc e)
    told_valued (RemoveIf k) of are e = absurd (cc e)

  -- so has the call that the moment shows
  pub call_valued : (same : K → K → Bool) (number : ℕ → ℕ) (stored : ℕ) (known : Known) (u : CallOnKey K V K) (c : CallThere K V) (its : Call K V) → IsCalled same (OnKey u) its
      → IsAskedAs number stored known u its c → HasGiven u.pair → has_value_for its c ≡ true
  call_valued same number stored known u c (call.On one) is asked (inl (kind, pair, given)) = begun_valued one asked.asked kind pair (sym given ∙ asked.given) (has_gift c.replies)
  call_valued same number stored known u c (call.On one) is asked (inr (kind, key, told, about, value, given, was)) =
      told_valued number stored c.replies kind key told about value was one asked.asked asked.replies (sym given ∙ asked.given)
  call_valued same number stored known u c (call.Reserve n) is asked has = absurd is
  call_valued same number stored known u c call.Clear is asked has = absurd is
  call_valued same number stored known u c call.Retain is asked has = absurd is
  call_valued same number stored known u c call.Len is asked has = absurd is
  call_valued same number stored known u c call.Walk is asked has = absurd is

-- within a row it makes none
pub row_no_own : (q : Calling) → IsRowOfCall q → IsToOwn q → ⊥
row_no_own at.Makes row own = row
row_no_own (at.Asks (asking.Fills word)) row own = row
row_no_own _ row own = own

-- By the point at which it makes its own block.
module _ {K V : Type 0} (same : K → K → Bool) (hash : K → ℕ) (w : World (Node K V)) (i : ℕ) (setting : Setting) (c : Chart K) (seen : Blocks) (keys : K → Bool) (change : Change) (p : KeyCall K V K) where
  -- the key for it is in no block
  abbrev pub KeyFor : Calling → Type 0
  KeyFor (at.Asks (asking.Fills word)) = (key : K) × (p.replies.key ≡ Some key)
  KeyFor _ = Unit {0}

  holds_other : (kind : Missing) → holding takes.Nothing kind ≡ ByReply → ⊥
  holds_other missing.Puts e = cc e
  holds_other missing.Answers e = cc e
  holds_other missing.Asks e = cc e

  told_is : (t : Told V) (value : V) → value_replied t ≡ Some value → t ≡ tells.Value value
  told_is (tells.Value v) value e = let one : v ≡ value = cc e in ap (λ (x : V). tells.Value x) one
  told_is tells.Nothing value e = absurd (cc e)
  told_is tells.Own value e = absurd (cc e)
  told_is tells.Removes value e = absurd (cc e)

  makes_given : (g : Given K V) → CallingFacts same hash same w i setting c seen keys change p at.Makes → KeepsGiven hash w.memory c seen keys g change p at.Makes → HasGiven g
  makes_given (Begun kind pair) facts keeps = inl (kind, _, ap (λ (o : Option (Node K V)). Begun kind o) (sym keeps.1 ∙ facts.5))
  makes_given (IsTold kind its asked) facts keeps = absurd (keeps.0.0.asks facts.8)

  fills_given : (g : Given K V) (word : ℕ) → holding p.replies.takes p.missing ≡ ByReply → (value : V) → value_for p.replies word ≡ Some value → (key : K) → p.replies.key ≡ Some key
      → KeepsGiven hash w.memory c seen keys g change p (at.Asks (asking.Fills word)) → HasGiven g
  fills_given (Begun kind pair) word by_reply value value_is key key_is keeps =
      absurd (holds_other p.missing (ap (λ (t : Takes). holding t p.missing) (sym keeps.0) ∙ by_reply))
  fills_given (IsTold kind its asked) word by_reply value value_is key key_is keeps = by (word == 0) value_is
    where
      its_key : ◌≡◌ {A = Given K V} (IsTold kind its asked) (IsTold kind (Some key) asked)
      its_key = ap (λ (o : Option K). IsTold kind o asked) (keeps.0.0.key key key_is)

      by : (q : Bool) → value_replied (if q then p.replies.absent else p.replies.present) ≡ Some value → HasGiven (IsTold kind its asked)
      by true e = inr (kind, key, asked, None, value, its_key, keeps.0.0.absent value (told_is p.replies.absent value e))
      by false e = let recalls = keeps.0.0.present value (told_is p.replies.present value e) in inr (kind, key, asked, Some recalls.0, value, its_key, recalls.3)

  given_at : (g : Given K V) (began : ℕ) (q : Calling) → IsToOwn q → KeyFor q
      → CallingFacts same hash same w i setting c seen keys change p q ⊎ SupersededCalling same hash same w i setting c seen keys began p q
      → KeepsGiven hash w.memory c seen keys g change p q → HasGiven g
  given_at g began at.Makes own key (inl facts) keeps = makes_given g facts keeps
  given_at g began at.Makes own key (inr late) keeps = absurd late
  given_at g began (at.Asks (asking.Fills word)) own key (inl facts) keeps = fills_given g word facts.1 facts.2.0 facts.2.1 key.0 key.1 keeps
  given_at g began (at.Asks (asking.Fills word)) own key (inr late) keeps = fills_given g word late.1 late.2.0 late.2.1 key.0 key.1 keeps
  given_at g began (at.Asks (asking.Absent gap)) own key facts keeps = absurd own
  given_at g began (at.Asks (asking.Present word)) own key facts keeps = absurd own
  given_at g began (at.Asks (asking.GivesUp word)) own key facts keeps = absurd own
  given_at g began (at.Looks lookup) own key facts keeps = absurd own
  given_at g began at.Roots own key facts keeps = absurd own
  given_at g began at.Probes own key facts keeps = absurd own
  given_at g began (at.Tries word new) own key facts keeps = absurd own
  given_at g began (at.Counts removed) own key facts keeps = absurd own
  given_at g began at.Nexts own key facts keeps = absurd own
  given_at g began (at.Firsts n) own key facts keeps = absurd own
  given_at g began (at.Allocs n) own key facts keeps = absurd own
  given_at g began (at.Helps copier goal) own key facts keeps = absurd own
  given_at g began (at.Copies copier) own key facts keeps = absurd own
  given_at g began (at.Disposes dispose answer) own key facts keeps = absurd own
  given_at g began (at.Drops end) own key facts keeps = absurd own
  given_at g began (at.Over end) own key facts keeps = absurd own

  -- by a step that has changed something: a block was made, or refused
  module _ (asks : K → K → Bool) (codes : K → ℕ) (m m2 : Mem (Node K V)) (told : Changed) (e : KeyCall K V K × Called (Node K V)) (some : told ≡ changed.Nothing → ⊥) where
    fills_key : (word : ℕ) (o : Option K) → p.replies.key ≡ o → StepsObserved K V (KeyCall K V K × Called (Node K V)) m changed.Nothing (fills_with o p word) m2 told e → (key : K) × (p.replies.key ≡ Some key)
    fills_key word (Some key) is s = (key, is)
    fills_key word None is s = absurd (some s.1.1)

    key_for : (q : Calling) → IsToOwn q → StepsObserved K V (KeyCall K V K × Called (Node K V)) m changed.Nothing (calls.plan_at asks same codes p q) m2 told e → KeyFor q
    key_for (at.Asks (asking.Fills word)) own s = fills_key word p.replies.key refl s
    key_for _ own s = tt

pub knows_given : {K V : Type 0} (same : K → K → Bool) (hash : K → ℕ) (setting : Setting) (slot : ℕ → ℕ) (w : World (Node K V)) (c : Chart K) (seen : Blocks) (i : ℕ) (u : CallOnKey K V K) (p : KeyCall K V K)
    → Knows V same hash same setting slot w c seen i u p → IsToOwn p.stands → (codes : K → ℕ) (m m2 : Mem (Node K V)) (told : Changed) (e : KeyCall K V K × Called (Node K V)) → (told ≡ changed.Nothing → ⊥)
    → StepsObserved K V (KeyCall K V K × Called (Node K V)) m changed.Nothing (calls.call_plan same same codes p) m2 told e → HasGiven u.pair
knows_given same hash setting slot w c seen i u p knows own codes m m2 told e some s =
    given_at same hash w i (in_slot setting (slot i)) c seen u.keys u.change p u.pair u.began p.stands own
    (key_for same hash w i (in_slot setting (slot i)) c seen u.keys u.change p same codes m m2 told e some p.stands own s)
    (elim (knows.facts) as (λ _. CallingFacts same hash same w i (in_slot setting (slot i)) c seen u.keys u.change p p.stands ⊎ SupersededCalling same hash same w i (in_slot setting (slot i)) c seen u.keys u.began p p.stands) [
      | inl facts ↦ inl facts.point
      | inr late ↦ inr late.1.point
    ])
    knows.pair
