-- A call on one key that makes a table has a value for a pair: it began with one, or was told one.
use Rattle.std.specs.Prelude.{◌≡◌, ◌≢◌, ℕ, Bool, true, List, Option, Some, None, ◌⊎◌}
use Rattle.std.proofs.Common.{refl, ap, sym, ◌∙◌, inl, inr}
use Rattle.run_executor.specs.Given.SeizeWordsMem.{Mem}
use Rattle.run_executor.specs.Given.SeizeWorld.{World}
use Rattle.run_blocks.specs.Given.TablesDeclared.node.Node.{Node}
use Rattle.run_blocks.specs.Given.TablesDeclared.setting.Setting.{Setting}
use Rattle.run_blocks.specs.Given.ResizeDeclared.new_table.NewTable.{NewTable}
use Rattle.run_executor.specs.Given.RawDeclared.machines.answer.Missing.TheVariants as missing
use Rattle.run_executor.specs.Given.RawDeclared.machines.asking.MachineReply.TheVariants as reply
use Rattle.run_executor.specs.Given.RawDeclared.machines.asking.Told.{Told}
use Rattle.run_executor.specs.Given.RawDeclared.machines.asking.Told.TheVariants as tells
use Rattle.run_executor.specs.Given.RawDeclared.machines.call.Calling.{Calling}
use Rattle.run_executor.specs.Given.RawDeclared.machines.call.Calling.TheVariants as at
use Rattle.run_executor.specs.Given.RawDeclared.machines.call.KeyCall.{KeyCall}
use Rattle.run_executor.specs.Given.RunsDeclared.call.Call.{Call}
use Rattle.run_executor.specs.Given.RunsDeclared.call.Call.TheVariants as call
use Rattle.run_executor.specs.Given.RunsDeclared.call.OneKey.{OneKey}
use Rattle.run_executor.specs.Given.RunsDeclared.call.OneKey.TheVariants.{Get, GetKeyValue, ContainsKey, Insert, TryInsert, TryInsertWith, GetOrInsert, GetOrInsertWith, Update, UpdateOrInsert, UpdateOrInsertWith, Compute, Remove, RemoveEntry, RemoveIf}
use Rattle.run_executor.specs.Given.RunsDeclared.call.Reply.{Reply}
use Rattle.run_executor.specs.Given.SchedulesGrowing.{has_value_for}
use Rattle.run_executor.specs.Given.SchedulesMoment.{UnderWay as CallThere}
use Rattle.run_executor.specs.Given.SchedulesSequential.{has_value}
use Rattle.run_executor.specs.Given.SchedulesViews.{has_gift}
use Rattle.run_executor.specs.Given.RuleChart.{Chart}
use Rattle.run_executor.specs.Given.RuleWords.{Blocks}
use Rattle.run_executor.specs.Given.PointsFactsCalls.{Change, IsCopying}
use Rattle.run_executor.specs.Given.CallersAsked.{Asked, last_reply, IsAsReplied}
use Rattle.run_executor.specs.Given.CallersKind.{Kind}
use Rattle.run_executor.specs.Given.CallersPairs.{Given, Begun, IsTold, kind_of, KeepsGiven}
use Rattle.run_executor.specs.Given.CallersTogether.{CallOnKey, OnKey, Knows}
use Rattle.run_executor.specs.Given.EffectsKnown.{Known}
use Rattle.run_executor.specs.Given.FollowsCalls.{IsCalled}
use Rattle.run_executor.specs.Given.HandsAsked.{given_by, AreReplies, IsAskedAs}
use Rattle.run_blocks.specs.Owes.Making.{making_in_calling}
use Rattle.run_blocks.proofs.Owes.Valued.{gift_told}
use Rattle.run_finds.specs.Growing.{HasForNone, GrowsAt}

-- of a call of this kind, which was told so: it stores where its key is missing, or asks there, and was told a value
abbrev pub StoresForNone : {V : Type 0} → Kind → List (Asked V) → Type 0
StoresForNone {V} kind asked = (kind.absent ≡ missing.Puts) ⊎ ((kind.absent ≡ missing.Asks) × (value : V) × (last_reply None asked ≡ Some (reply.Insert value)))

-- a call that just answers there stores nothing
pub answers_none : {V : Type 0} (kind : Kind) (asked : List (Asked V)) → kind.absent ≡ missing.Answers → StoresForNone kind asked → ⊥
answers_none kind asked answers (inl puts) = cc (answers, puts)
answers_none kind asked answers (inr (asks, value, was)) = cc (answers, asks)

module _ {K V : Type 0} where
  -- and of what it was begun with, and was told
  abbrev pub HasGivenForNone : Given K V → Type 0
  HasGivenForNone (Begun kind pair) = kind.absent ≢ missing.Answers
  HasGivenForNone (IsTold kind its asked) = StoresForNone kind asked

  pub kind_same : (g : Given K V) (one : OneKey K V) (asked : List (Asked V)) → g ≡ given_by one asked → (kind_of g).absent ≡ (kind_of (given_by one asked)).absent
  kind_same g one asked e = ap (λ (x : Given K V). (kind_of x).absent) e

  -- a call that never asks
  begun_valued : (one : OneKey K V) (asked : List (Asked V)) (kind : Kind) (pair : Option (Node K V)) → ◌≡◌ {A = Given K V} (Begun kind pair) (given_by one asked) → kind.absent ≢ missing.Answers → (told : Bool)
      → has_value one told ≡ true
  begun_valued (Insert k v) asked kind pair e some told = refl
  begun_valued (TryInsert k v) asked kind pair e some told = refl
  begun_valued (GetOrInsert k v) asked kind pair e some told = refl
  begun_valued (UpdateOrInsert k v) asked kind pair e some told = refl
  begun_valued (Get k) asked kind pair e some told = absurd (some (kind_same (Begun kind pair) (Get k) asked e))
  begun_valued (GetKeyValue k) asked kind pair e some told = absurd (some (kind_same (Begun kind pair) (GetKeyValue k) asked e))
  begun_valued (ContainsKey k) asked kind pair e some told = absurd (some (kind_same (Begun kind pair) (ContainsKey k) asked e))
  begun_valued (Remove k) asked kind pair e some told = absurd (some (kind_same (Begun kind pair) (Remove k) asked e))
  begun_valued (RemoveEntry k) asked kind pair e some told = absurd (some (kind_same (Begun kind pair) (RemoveEntry k) asked e))
  begun_valued (TryInsertWith k) asked kind pair e some told = absurd (cc e)
  begun_valued (GetOrInsertWith k) asked kind pair e some told = absurd (cc e)
  begun_valued (Update k) asked kind pair e some told = absurd (cc e)
  begun_valued (UpdateOrInsertWith k) asked kind pair e some told = absurd (cc e)
  begun_valued (Compute k) asked kind pair e some told = absurd (cc e)
  begun_valued (RemoveIf k) asked kind pair e some told = absurd (cc e)

  -- and one that does
  module _ (number : ℕ → ℕ) (stored : ℕ) (replies : List (Option ℕ × Reply V)) (kind : Kind) (its : Option K) (asked : List (Asked V)) (stores : StoresForNone kind asked) where
    abbrev Its : Given K V
    Its = IsTold kind its asked

    -- it does not store without asking, so it was told a value
    was_told : (kind.absent ≡ missing.Puts → ⊥) → (value : V) × (last_reply None asked ≡ Some (reply.Insert value))
    was_told never = by stores
      where
        by : StoresForNone kind asked → (value : V) × (last_reply None asked ≡ Some (reply.Insert value))
        by (inl puts) = absurd (never puts)
        by (inr (asks, value, was)) = (value, was)

    gift_there : (of : List (Asked V)) → AreReplies number stored of replies → asked ≡ of → (kind.absent ≡ missing.Puts → ⊥) → has_gift replies ≡ true
    gift_there of are e never = let it = was_told never in gift_told number stored of replies None it.0 are (ap (last_reply None) (sym e) ∙ it.1)

    told_valued : (one : OneKey K V) (of : List (Asked V)) → AreReplies number stored of replies → Its ≡ given_by one of → has_value one (has_gift replies) ≡ true
    told_valued (Insert k v) of are e = refl
    told_valued (TryInsert k v) of are e = refl
    told_valued (GetOrInsert k v) of are e = refl
    told_valued (UpdateOrInsert k v) of are e = refl
    told_valued (TryInsertWith k) of are e = gift_there of are (let one : asked ≡ of = cc e in one) (λ puts. cc (e, puts))
    told_valued (GetOrInsertWith k) of are e = gift_there of are (let one : asked ≡ of = cc e in one) (λ puts. cc (e, puts))
    told_valued (Update k) of are e = gift_there of are (let one : asked ≡ of = cc e in one) (λ puts. cc (e, puts))
    told_valued (UpdateOrInsertWith k) of are e = gift_there of are (let one : asked ≡ of = cc e in one) (λ puts. cc (e, puts))
    told_valued (Compute k) of are e = gift_there of are (let one : asked ≡ of = cc e in one) (λ puts. cc (e, puts))
    told_valued (RemoveIf k) of are e = absurd (answers_none kind asked (kind_same Its (RemoveIf k) of e) stores)
    told_valued (Get k) of are e = absurd (cc e)
    told_valued (GetKeyValue k) of are e = absurd (cc e)
    told_valued (ContainsKey k) of are e = absurd (cc e)
    told_valued (Remove k) of are e = absurd (cc e)
    told_valued (RemoveEntry k) of are e = absurd (cc e)

  -- So the call that the moment shows has a value for a pair.

  given_valued : (number : ℕ → ℕ) (stored : ℕ) (replies : List (Option ℕ × Reply V)) (g : Given K V) → HasGivenForNone g → (one : OneKey K V) (of : List (Asked V)) → AreReplies number stored of replies → g ≡ given_by one of
      → has_value one (has_gift replies) ≡ true
  given_valued number stored replies (Begun kind pair) has one of are e = begun_valued one of kind pair e has (has_gift replies)
  given_valued number stored replies (IsTold kind its asked) has one of are e = told_valued number stored replies kind its asked has one of are e

  pub called_valued : (same : K → K → Bool) (number : ℕ → ℕ) (stored : ℕ) (known : Known) (u : CallOnKey K V K) (c : CallThere K V) (its : Call K V) → IsCalled same (OnKey u) its
      → IsAskedAs number stored known u its c → HasGivenForNone u.pair → has_value_for its c ≡ true
  called_valued same number stored known u c (call.On one) is asked has = given_valued number stored c.replies u.pair has one asked.asked asked.replies asked.given
  called_valued same number stored known u c (call.Reserve n) is asked has = absurd is
  called_valued same number stored known u c call.Clear is asked has = absurd is
  called_valued same number stored known u c call.Retain is asked has = absurd is
  called_valued same number stored known u c call.Len is asked has = absurd is
  called_valued same number stored known u c call.Walk is asked has = absurd is

-- A call that has what it stores where its key is missing was begun with that, or told it.
module _ {K V : Type 0} (hash : K → ℕ) (m : Mem (Node K V)) (c : Chart K) (seen : Blocks) (keys : K → Bool) (change : Change) (p : KeyCall K V K) (stays : p.replies.absent ≢ tells.Removes) where
  begun_for : (kind : Kind) → p.missing ≡ kind.absent → HasForNone p → kind.absent ≢ missing.Answers
  begun_for kind is has answers = by has
    where
      none : p.missing ≡ missing.Answers
      none = is ∙ answers

      by : HasForNone p → ⊥
      by (inl puts) = cc (none, puts)
      by (inr (asks, some)) = cc (none, asks)

  told_for : (kind : Kind) (its : Option K) (asked : List (Asked V)) → IsAsReplied hash m c seen its asked p.replies p.own → p.missing ≡ kind.absent → HasForNone p → StoresForNone kind asked
  told_for kind its asked as_told is (inl puts) = inl (sym is ∙ puts)
  told_for kind its asked as_told is (inr (asks, some)) = (let it = by p.replies.absent refl in inr (sym is ∙ asks, it.0, it.1))
    where
      by : (t : Told V) → p.replies.absent ≡ t → (value : V) × (last_reply None asked ≡ Some (reply.Insert value))
      by tells.Nothing e = absurd (some e)
      by (tells.Value value) e = (value, as_told.absent value e)
      by tells.Own e = let own = as_told.absent_own e in (own.1.1, own.1.4)
      by tells.Removes e = absurd (stays e)

  -- where it makes a table, and not its copier
  given_at : (many : ℕ) (g : Given K V) (q : Calling) (n : NewTable) → making_in_calling q ≡ Some n → (IsCopying q → ⊥) → GrowsAt many p q → KeepsGiven hash m c seen keys g change p q → HasGivenForNone g
  given_at many (Begun kind pair) (at.Firsts making) n is other has keeps = begun_for kind keeps.2.1 has.0
  given_at many (Begun kind pair) (at.Allocs making) n is other has keeps = begun_for kind keeps.2.1 has.0
  given_at many (IsTold kind its asked) (at.Firsts making) n is other has keeps = told_for kind its asked keeps.0.0 keeps.2.1 has.0
  given_at many (IsTold kind its asked) (at.Allocs making) n is other has keeps = told_for kind its asked keeps.0.0 keeps.2.1 has.0
  given_at many g (at.Helps copier goal) n is other has keeps = absurd (other tt)
  given_at many g (at.Copies copier) n is other has keeps = absurd (other tt)
  given_at many g _ n is other has keeps = absurd (cc is)

pub knows_for_none : {K V : Type 0} (same : K → K → Bool) (hash : K → ℕ) (setting : Setting) (slot : ℕ → ℕ) (w : World (Node K V)) (c : Chart K) (seen : Blocks) (i : ℕ) (u : CallOnKey K V K) (p : KeyCall K V K)
    → Knows V same hash same setting slot w c seen i u p → (many : ℕ) → GrowsAt many p p.stands → (n : NewTable) → making_in_calling p.stands ≡ Some n → (IsCopying p.stands → ⊥) → HasGivenForNone u.pair
knows_for_none same hash setting slot w c seen i u p knows many grows n is other =
    given_at hash w.memory c seen u.keys u.change p
    (elim (knows.facts) as (λ _. p.replies.absent ≢ tells.Removes) [
      | inl facts ↦ facts.may.1.absent_stays
      | inr late ↦ late.1.may.1.absent_stays
    ])
    many u.pair p.stands n is other grows knows.pair
