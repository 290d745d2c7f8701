-- Where a call on one key that is no copier comes to by its step, it has unlinked no table.
use Rattle.std.specs.Prelude.{◌≡◌, ℕ, ◌==◌, Bool, true, false, Ok, Err, Option, Some, None}
use Rattle.std.proofs.Common.{refl}
use Rattle.run_places.specs.Given.SeizeWordsMem.{Mem, Took, value_at}
use Rattle.run_places.specs.Given.SeizeWordsOp.{Out, Found, Stored, Exchanged, Made, Taken, Roomed}
use Rattle.run_places.specs.Given.SeizeWordsPlan.{Steps}
use Rattle.run_places.specs.Given.TablesDeclared.node.Node.{Node}
use Rattle.run_places.specs.Given.TablesDeclared.node.Node.TheVariants as node
use Rattle.run_places.specs.Given.RawCall.{plan_at}
use Rattle.run_places.specs.Given.RawCallFills.{filled, putting_by, fill_by, emptied, fills_with, given_up}
use Rattle.run_places.specs.Given.RawReplies.{value_for, as_own}
use Rattle.run_places.specs.Given.RawDeclared.machines.answer.Called.{Called}
use Rattle.run_places.specs.Given.RawDeclared.machines.asking.Asking.{Asking}
use Rattle.run_places.specs.Given.RawDeclared.machines.asking.Asking.TheVariants as asking
use Rattle.run_places.specs.Given.RawDeclared.machines.call.Calling.{Calling}
use Rattle.run_places.specs.Given.RawDeclared.machines.call.Calling.TheVariants as at
use Rattle.run_places.specs.Given.RawDeclared.machines.call.KeyCall.{KeyCall}
use Rattle.run_places.proofs.Given.RuleKeys.Always.{Always, AlwaysOf, always_steps}
use Rattle.owner_facts.specs.Alone.Handed.{call_has_unlinked}
use Rattle.owner_facts.proofs.Alone.Handed.Fresh.{IsFreshAt, call_fresh}
use Rattle.run_debts.proofs.Fresh.{IsBefore}

-- no copier
abbrev pub IsNoCopier : Calling → Type 0
IsNoCopier (at.Helps copier goal) = ⊥
IsNoCopier (at.Copies copier) = ⊥
IsNoCopier _ = Unit {0}

module _ {K V : Type 0} where
  -- it has unlinked none
  abbrev HasNone : KeyCall K V K × Called (Node K V) → Type 0
  HasNone e = call_has_unlinked e.0.stands ≡ false

  -- where it asks, or goes by what it was told
  module _ (p : KeyCall K V K) (self : call_has_unlinked p.stands ≡ false) where
    given_none : (word : ℕ) (out : Out (Node K V)) → Always HasNone (given_up p word out)
    given_none word (Taken (node.Pair key value)) = refl
    given_none word (Taken (node.Table len limit turn)) = refl
    given_none word (Taken node.Shards) = refl
    given_none word Stored = self
    given_none word (Exchanged r) = self
    given_none word (Found found) = self
    given_none word (Made r) = self
    given_none word (Roomed r) = self

    emptied_none : (word : ℕ) (out : Out (Node K V)) → Always HasNone (emptied p word out)
    emptied_none word (Taken (node.Pair key value)) = refl
    emptied_none word (Taken (node.Table len limit turn)) = refl
    emptied_none word (Taken node.Shards) = refl
    emptied_none word Stored = refl
    emptied_none word (Exchanged r) = refl
    emptied_none word (Found found) = refl
    emptied_none word (Made r) = refl
    emptied_none word (Roomed r) = refl

    filled_none : (word : ℕ) (out : Out (Node K V)) → Always HasNone (filled p word out)
    filled_none word (Made (Ok block)) = refl
    filled_none word (Made (Err value)) = refl
    filled_none word (Taken value) = refl
    filled_none word Stored = self
    filled_none word (Exchanged r) = self
    filled_none word (Found found) = self
    filled_none word (Roomed r) = self

  putting_none : (b : Bool) (p : KeyCall K V K) (word : ℕ) (key : K) (value : V) → call_has_unlinked p.stands ≡ false → AlwaysOf HasNone (putting_by b p word key value)
  putting_none true p word key value self = filled_none p self word
  putting_none false p word key value self = filled_none p self word

  fill_none : (o : Option V) (p : KeyCall K V K) (word : ℕ) (key : K) → call_has_unlinked p.stands ≡ false → AlwaysOf HasNone (fill_by o p word key)
  fill_none (Some value) p word key self = putting_none (p.own == 0) (record p { replies = record p.replies { key = None } }) word key value self
  fill_none None p word key self = refl

  fills_none : (key : Option K) (p : KeyCall K V K) (word : ℕ) → call_has_unlinked p.stands ≡ false → AlwaysOf HasNone (fills_with key p word)
  fills_none (Some key) p word self = fill_none (value_for p.replies word) (record p { replies = as_own p.replies word }) word key self
  fills_none None p word self = emptied_none p self word

  asks_none : (asks same : K → K → Bool) (hash : K → ℕ) (p : KeyCall K V K) (stands : Asking) → call_has_unlinked p.stands ≡ false → AlwaysOf HasNone (plan_at asks same hash p (at.Asks stands))
  asks_none asks same hash p (asking.Absent gap) self = self
  asks_none asks same hash p (asking.Present word) self = self
  asks_none asks same hash p (asking.Fills word) self = fills_none p.replies.key p word self
  asks_none asks same hash p (asking.GivesUp word) self = given_none p self word

  -- what is fresh has unlinked none
  fresh_none : (p : KeyCall K V K) (stands : Calling) → IsFreshAt p stands → call_has_unlinked stands ≡ false
  fresh_none p (at.Disposes dispose answer) fresh = refl
  fresh_none p (at.Helps copier goal) fresh = fresh
  fresh_none p (at.Copies copier) fresh = fresh
  fresh_none p _ fresh = refl

  pub self_fresh : (p : KeyCall K V K) (stands : Calling) → IsNoCopier stands → IsBefore stands → IsFreshAt p stands
  self_fresh p (at.Helps copier goal) none before = absurd none
  self_fresh p (at.Copies copier) none before = absurd none
  self_fresh p (at.Disposes dispose answer) none before = absurd before
  self_fresh p _ none before = refl

  -- so it is after a step of one that has not changed its map yet
  pub before_links : (asks same : K → K → Bool) (hash : K → ℕ) (p : KeyCall K V K) (stands : Calling) → IsNoCopier stands → IsBefore stands → IsFreshAt p p.stands
      → (m m2 : Mem (Node K V)) (end : KeyCall K V K × Called (Node K V)) → Steps Took value_at m (plan_at asks same hash p stands) m2 end → HasNone end
  before_links asks same hash p (at.Asks stands) none before self m m2 end s =
      always_steps HasNone m m2 (plan_at asks same hash p (at.Asks stands)) end (asks_none asks same hash p stands (fresh_none p p.stands self)) s
  before_links asks same hash p (at.Helps copier goal) none before self m m2 end s = absurd none
  before_links asks same hash p (at.Copies copier) none before self m m2 end s = absurd none
  before_links asks same hash p (at.Disposes dispose answer) none before self m m2 end s = absurd before
  before_links asks same hash p (at.Over over) none before self m m2 end s = absurd before
  before_links asks same hash p stands none before self m m2 end s = fresh_none end.0 end.0.stands (call_fresh asks same hash p self m m2 end stands tt refl refl s).0
