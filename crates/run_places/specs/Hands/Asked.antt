-- What calls on one key were told, and ask, at a moment of a run, by what they were told in the scene.
use Rattle.std.specs.Prelude.{◌≡◌, ℕ, ◌<◌, true, false, List, [], ◌∷◌, ◌++◌, Option, Some, None}
use Rattle.run_shows.specs.Given.SeizeWordsWord.{block_in}
use Rattle.run_shows.specs.Given.TablesDeclared.node.Node.TheVariants as node
use Rattle.run_shows.specs.Given.RunsSame.{is_same}
use Rattle.run_shows.specs.Given.RawDeclared.machines.asking.Asking.{Asking as AskingAt}
use Rattle.run_shows.specs.Given.RawDeclared.machines.asking.Asking.TheVariants as asking
use Rattle.run_shows.specs.Given.RawDeclared.machines.asking.MachineReply.{MachineReply}
use Rattle.run_shows.specs.Given.RawDeclared.machines.asking.MachineReply.TheVariants as reply
use Rattle.run_shows.specs.Given.RawDeclared.machines.call.Calling.{Calling}
use Rattle.run_shows.specs.Given.RawDeclared.machines.call.Calling.TheVariants as at
use Rattle.run_shows.specs.Given.RunsDeclared.call.Call.{Call}
use Rattle.run_shows.specs.Given.RunsDeclared.call.Call.TheVariants.{On}
use Rattle.run_shows.specs.Given.RunsDeclared.call.OneKey.{OneKey}
use Rattle.run_shows.specs.Given.RunsDeclared.call.OneKey.TheVariants.{Get, GetKeyValue, ContainsKey, Insert, TryInsert, TryInsertWith, GetOrInsert, GetOrInsertWith, Update, UpdateOrInsert, UpdateOrInsertWith, Compute, Remove, RemoveEntry, RemoveIf}
use Rattle.run_shows.specs.Given.RunsDeclared.call.Reply.{Reply}
use Rattle.run_shows.specs.Given.RunsDeclared.call.Reply.TheVariants.{Gives, Removes, Aborts, Decides}
use Rattle.run_shows.specs.Given.SchedulesMoment.{Asking, UnderWay as CallThere, Moment}
use Rattle.run_shows.specs.Given.SchedulesViews.{call_of}
use Rattle.run_shows.specs.Given.CallersAsked.{Asked, last_reply, replies_before}
use Rattle.run_shows.specs.Given.CallersKind.{gets, removes, inserts, tries_to_insert, computes, updates, updates_or_inserts, tries_to_insert_with, removes_if}
use Rattle.run_shows.specs.Given.CallersPairs.{Given, Begun, IsTold}
use Rattle.run_shows.specs.Given.CallersTogether.{CallOnKey, UnderWay, OnKey}
use Rattle.run_shows.specs.Given.EffectsKnown.{Known}
use Rattle.run_shows.specs.Given.EffectsDeclared.role.Role.TheVariants as role
use Rattle.run_shows.specs.Given.FinishesMaps.{Standing}
use Rattle.run_shows.specs.Scenes.Scene.{Scene}

-- a reply, as it is told to the call: what a closure aborts with is the caller's alone
abbrev pub reply_to_machine : {V : Type 0} → Reply V → MachineReply V
reply_to_machine (Gives v) = reply.Insert v
reply_to_machine Removes = reply.Remove
reply_to_machine (Aborts w) = reply.Abort
reply_to_machine (Decides true) = reply.Yes
reply_to_machine (Decides false) = reply.No

module _ {K V : Type 0} where
  -- what was called is begun with, and has been told since, the last reply first
  abbrev pub given_by : OneKey K V → List (Asked V) → Given K V
  given_by (Get k) asked = Begun gets None
  given_by (GetKeyValue k) asked = Begun gets None
  given_by (ContainsKey k) asked = Begun gets None
  given_by (Insert k v) asked = Begun inserts (Some (node.Pair k v))
  given_by (TryInsert k v) asked = Begun tries_to_insert (Some (node.Pair k v))
  given_by (TryInsertWith k) asked = IsTold tries_to_insert_with (Some k) asked
  given_by (GetOrInsert k v) asked = Begun tries_to_insert (Some (node.Pair k v))
  given_by (GetOrInsertWith k) asked = IsTold tries_to_insert_with (Some k) asked
  given_by (Update k) asked = IsTold updates (Some k) asked
  given_by (UpdateOrInsert k v) asked = IsTold updates_or_inserts (Some k) (asked ++ replies_before (Some v))
  given_by (UpdateOrInsertWith k) asked = IsTold updates_or_inserts (Some k) asked
  given_by (Compute k) asked = IsTold computes (Some k) asked
  given_by (Remove k) asked = Begun removes None
  given_by (RemoveEntry k) asked = Begun removes None
  given_by (RemoveIf k) asked = IsTold removes_if None asked

  -- it knows from the beginning what to store where its key is missing, though it may ask elsewhere
  abbrev pub KnowsFirst : OneKey K V → Type 0
  KnowsFirst (UpdateOrInsert k v) = Unit {0}
  KnowsFirst _ = ⊥

-- Of a map, whose pairs have these numbers of the run, and of which so many were stored.
module _ (number : ℕ → ℕ) (stored : ℕ) where
  -- both are about one pair, or about none
  abbrev pub IsSameQuestion : Option ℕ → Option ℕ → Type 0
  IsSameQuestion None None = Unit {0}
  IsSameQuestion (Some n) (Some k) = (n < stored) × (number n ≡ k)
  IsSameQuestion _ _ = ⊥

  -- what the call was told are these replies
  abbrev pub AreReplies : {V : Type 0} → List (Asked V) → List (Option ℕ × Reply V) → Type 0
  AreReplies [] [] = Unit {0}
  AreReplies (a ∷ asked) (r ∷ replies) = IsSameQuestion a.about r.0 × (a.told ≡ reply_to_machine r.1) × AreReplies asked replies
  AreReplies _ _ = ⊥

module _ (known : Known) where
  -- the question is the one at which it stands: what to do where its key is missing, or with the pair of a word
  abbrev pub IsQuestion : AskingAt → Option ℕ → Type 0
  IsQuestion (asking.Absent gap) None = Unit {0}
  IsQuestion (asking.Present word) (Some k) = known.roles (block_in word) ≡ role.Pair k
  IsQuestion _ _ = ⊥

  -- a call that stands there asks this
  abbrev pub AsksThere : Calling → Option ℕ → Type 0
  AsksThere stands question = (it : AskingAt) × (stands ≡ at.Asks it) × IsQuestion it question

module _ {K V : Type 0} (number : ℕ → ℕ) (stored : ℕ) (known : Known) where
  -- A call on one key was begun with what was called, and told what the moment says; and where it asks at that moment, it does so there. Between the effects of
  -- two steps it replaces nothing.
  pub record IsAskedOn (u : CallOnKey K V K) (one : OneKey K V) (c : CallThere K V) : Type 0 where
    pub asked : List (Asked V)
    pub given : u.pair ≡ given_by one asked
    pub replies : AreReplies number stored asked c.replies
    pub first : KnowsFirst one → last_reply None asked ≡ None
    pub replacing : c.replacing ≡ None
    pub asks : (question : Option ℕ) → c.stands ≡ Asking question → AsksThere known u.call.stands question

  abbrev pub IsAskedAs : CallOnKey K V K → Call K V → CallThere K V → Type 0
  IsAskedAs u (On one) c = IsAskedOn u one c
  IsAskedAs u _ c = Unit {0}

  -- a call of another kind stores nothing
  abbrev pub IsAsked : UnderWay K V K → CallThere K V → Type 0
  IsAsked (OnKey u) c = IsAskedAs u c.call c
  IsAsked _ c = Unit {0}

-- No two calls that are under way have callers of one name, and each was asked and told as the moment says.
pub record RefinesAsked {K V : Type 0} (name : ℕ → List ℕ) (number : ℕ → ℕ → ℕ) (m : Moment K V) (known : Known) (s : Scene K V) : Type 0 where
  pub apart : (n j k l : ℕ) (x y : UnderWay K V K) → s.calls n j ≡ Some x → s.calls k l ≡ Some y → is_same (name j) (name l) ≡ true → (n ≡ k) × (j ≡ l)
  pub each : (map i : ℕ) (u : UnderWay K V K) → s.calls map i ≡ Some u → (standing : Standing K) → s.maps map ≡ Some standing
      → (c : CallThere K V) → call_of (name i) m ≡ Some c → IsAsked (number map) standing.chart.stored known u c
