-- What a call on one key is to be refused for, by its points: where it goes on from, by what it is told, and by its steps.
use Rattle.std.specs.Prelude.{◌≡◌, ℕ, ◌==◌, Bool, true, false, Option, Some, None, Err}
use Rattle.std.proofs.Common.{sym, subst}
use Rattle.run_debts.specs.Given.SeizeWordsMem.{Mem, Gives, value_at}
use Rattle.run_debts.specs.Given.SeizeWordsOp.{Out, Rewrite, Made}
use Rattle.run_debts.specs.Given.SeizeWordsWord.{block_in}
use Rattle.run_debts.specs.Given.SeizeWordsDeclared.fault.Fault.{Fault}
use Rattle.run_debts.specs.Given.SeizeWordsDeclared.fault.Fault.TheVariants.{Capacity, RemoveNothing}
use Rattle.run_debts.specs.Given.TablesDeclared.node.Node.{Node}
use Rattle.run_debts.specs.Given.TablesDeclared.node.Node.TheVariants as node
use Rattle.owner_calls.specs.Given.ResizeCopier.{copier_plan}
use Rattle.owner_calls.specs.Given.ResizeDispose.{dispose_plan}
use Rattle.owner_calls.specs.Given.ResizeLookup.{lookup_plan}
use Rattle.owner_calls.specs.Given.ResizeNewTable.{new_table_plan}
use Rattle.owner_calls.specs.Given.ResizeDeclared.lookup.Lookup.{Lookup}
use Rattle.owner_calls.specs.Given.RawCall.{call_plan, made, makes_of, looked, looks_for, first_made, next_made, disposed, helped, copied}
use Rattle.owner_calls.specs.Given.RawCall as calls
use Rattle.owner_calls.specs.Given.RawCallAsks.{replied_at}
use Rattle.owner_calls.specs.Given.RawCallFills.{emptied, fill_by, filled, fills_with, putting_by}
use Rattle.owner_calls.specs.Given.RawReplies.{as_own, value_for}
use Rattle.run_debts.specs.Given.RawDeclared.machines.answer.Called.{Called}
use Rattle.run_debts.specs.Given.RawDeclared.machines.answer.End.TheVariants as ends
use Rattle.run_debts.specs.Given.RawDeclared.machines.asking.Asking.TheVariants as asking
use Rattle.run_debts.specs.Given.RawDeclared.machines.asking.MachineReply.{MachineReply}
use Rattle.run_debts.specs.Given.RawDeclared.machines.call.Calling.{Calling}
use Rattle.run_debts.specs.Given.RawDeclared.machines.call.Calling.TheVariants as at
use Rattle.run_debts.specs.Given.RawDeclared.machines.call.KeyCall.{KeyCall}
use Rattle.owner_calls.proofs.Given.RuleKeys.Always.{AlwaysOf, always_ends}
use Rattle.owner_calls.specs.Given.LateFaults.{AnyTable, SoInCalling, CallRefusesSo}
use Rattle.owner_calls.proofs.Given.LateKindsKept.Calls.Kept.{looks_on}
use Rattle.owner_calls.proofs.Given.LateKindsKept.Rooms.Calling.{CallsAs, IsSoAt, copied_as, counted_as, disposed_as, first_as, helped_as, key_told_as, looked_as, next_as, on_dropped, on_emptied, on_filled, on_found, on_given_up, on_made, on_next, on_root, on_tried, so_of_stands, stands_of_so}
use Rattle.run_debts.specs.Given.EffectsDeclared.changed.Changed.{Changed}
use Rattle.run_debts.specs.Given.EffectsDeclared.changed.Changed.TheVariants as memory
use Rattle.run_debts.specs.Given.EffectsDeclared.changed.Kind.{Kind}
use Rattle.run_debts.proofs.Given.OthersOutcomes.{told_in}
use Rattle.run_blocks.proofs.Owes.Grown.Within.{copier_so, so_always, table_so, was_made}
use Rattle.run_blocks.proofs.Owes.Tables.Hosts.{Step}
use Rattle.run_debts.proofs.Given.ScenesTold.{as_step}

module _ (Is : Fault → Type 0) where
  -- what it has to tell is so, and what it tells
  abbrev pub CallsFor : {K V Q : Type 0} → KeyCall K V Q × Called (Node K V) → Type 0
  CallsFor end = SoInCalling Is end.0.stands × CallRefusesSo Is end.1

-- of a call that goes on with what it was told
module _ (Is : Fault → Type 0) (nothing : Is RemoveNothing) {K V : Type 0} where
  pub key_told_so : (p : KeyCall K V K) → SoInCalling Is p.stands → (r : MachineReply V) → SoInCalling Is (replied_at p.stands p r).0.stands
  key_told_so p here r =
      so_of_stands Is (replied_at p.stands p r).0.trial.table (replied_at p.stands p r).0.stands (key_told_as Is AnyTable nothing p (stands_of_so Is p.trial.table p.stands here) r)

-- and by a step by which no block is refused
module _ (Is : Fault → Type 0) (long : Is Capacity) {K V : Type 0} (m m2 : Mem (Node K V)) (change : Changed) (unrefused : (k : Kind) → change ≡ memory.Unmade k → ⊥)
    (asks : K → K → Bool) (same : K → K → Bool) (hash : K → ℕ) (p : KeyCall K V K) (here : SoInCalling Is p.stands) (end : KeyCall K V K × Called (Node K V)) where
  abbrev Comes : KeyCall K V K × Called (Node K V) → Type 0
  Comes x = CallsAs Is AnyTable x

  at_here : IsSoAt Is AnyTable p
  at_here = stands_of_so Is p.trial.table p.stands here

  so_of : (stands : Calling) → AlwaysOf Comes (calls.plan_at asks same hash p stands) → Step m m2 change (calls.plan_at asks same hash p stands) end → Comes end
  so_of stands always s = so_always Is long m m2 change unrefused Comes (calls.plan_at asks same hash p stands) end always s

  makes_so : (o : Option (Node K V)) → Step m m2 change (makes_of p o) end → Comes end
  makes_so None s = subst Comes (sym s.1) (tt, tt)
  makes_so (Some value) s =
      always_ends Comes (value_at m2) (made p s.0) end (on_made Is AnyTable p asks same at_here s.0 (λ back is. absurd (was_made Is long m m2 change unrefused value 0 s.0 s.1.1 back is))) s.2

  looks_so : (lookup : Lookup) (asked : Option K) → Step m m2 change (looks_for asks p lookup asked) end → Comes end
  looks_so lookup (Some q) s =
      let it = told_in m m2 change (looked p) (lookup_plan (asks q) lookup) end s in
      subst Comes (sym it.1) (looked_as Is AnyTable p it.0 (looks_on lookup (asks q) m m2 it.0 (as_step m memory.Nothing (lookup_plan (asks q) lookup) m2 change it.0 it.2)))
  looks_so lookup None s = subst Comes (sym s.1) (tt, tt)

  rewritten : (block : ℕ) (value : Node K V) (out : Out (Node K V)) → Gives m (Rewrite block value) out → (back : Node K V) → out ≡ Made (Err back) → ⊥
  rewritten block value out gives back is = subst (λ (x : Out (Node K V)). Gives m (Rewrite block value) x) is gives

  -- of one that fills its own block, as it is then
  puts_so : (b : Bool) (q : KeyCall K V K) → IsSoAt Is AnyTable q → (word : ℕ) (key : K) (value : V) → Step m m2 change (putting_by b q word key value) end → Comes end
  puts_so true q so word key value s =
      always_ends Comes (value_at m2) (filled q word s.0) end (on_filled Is AnyTable q asks same so word s.0 (λ back is. absurd (was_made Is long m m2 change unrefused (node.Pair key value) 0 s.0 s.1.1 back is))) s.2
  puts_so false q so word key value s =
      always_ends Comes (value_at m2) (filled q word s.0) end (on_filled Is AnyTable q asks same so word s.0 (λ back is. absurd (rewritten (block_in q.own) (node.Pair key value) s.0 s.1.0.0 back is))) s.2

  fill_so : (o : Option V) (q : KeyCall K V K) → IsSoAt Is AnyTable q → (word : ℕ) (key : K) → Step m m2 change (fill_by o q word key) end → Comes end
  fill_so (Some value) q so word key s = puts_so (q.own == 0) (record q { replies = record q.replies { key = None } }) so word key value s
  fill_so None q so word key s = subst Comes (sym s.1) (tt, tt)

  fills_so : (key : Option K) (word : ℕ) → Step m m2 change (fills_with key p word) end → Comes end
  fills_so (Some key) word s = fill_so (value_for p.replies word) (record p { replies = as_own p.replies word }) at_here word key s
  fills_so None word s = always_ends Comes (value_at m2) (emptied p word s.0) end (on_emptied Is AnyTable p asks same at_here word s.0) s.2

  from : (stands : Calling) → SoInCalling Is stands → Step m m2 change (calls.plan_at asks same hash p stands) end → Comes end
  from at.Makes so s = makes_so p.unmade s
  from (at.Looks lookup) so s = looks_so lookup p.asked s
  from at.Roots so s = so_of at.Roots (on_root Is AnyTable p asks same at_here) s
  from at.Probes so s = so_of at.Probes (on_found Is AnyTable p asks same at_here) s
  from (at.Tries word new) so s = so_of (at.Tries word new) (on_tried Is AnyTable p asks same at_here word new) s
  from (at.Counts removed) so s = so_of (at.Counts removed) (λ out. counted_as Is AnyTable p removed) s
  from at.Nexts so s = so_of at.Nexts (λ out. on_next Is AnyTable p asks same at_here out (λ none reason by_table. tt)) s
  from (at.Firsts n) so s =
      let it = told_in m m2 change (first_made p) (new_table_plan n) end s in
      subst Comes (sym it.1) (first_as Is AnyTable p it.0 (table_so Is long m m2 change unrefused n so it.0 it.2))
  from (at.Allocs n) so s =
      let it = told_in m m2 change (next_made p) (new_table_plan n) end s in
      subst Comes (sym it.1) (next_as Is AnyTable p it.0 (table_so Is long m m2 change unrefused n so it.0 it.2))
  from (at.Helps copier goal) so s =
      let it = told_in m m2 change (helped p goal) (copier_plan hash copier) end s in
      subst Comes (sym it.1) (helped_as Is AnyTable p goal it.0 (copier_so Is long m m2 change unrefused hash copier so it.0 it.2))
  from (at.Copies copier) so s =
      let it = told_in m m2 change (copied p) (copier_plan hash copier) end s in
      subst Comes (sym it.1) (copied_as Is AnyTable p it.0 (copier_so Is long m m2 change unrefused hash copier so it.0 it.2))
  from (at.Asks (asking.Absent gap)) so s = so_of (at.Asks (asking.Absent gap)) (at_here, tt) s
  from (at.Asks (asking.Present word)) so s = so_of (at.Asks (asking.Present word)) (at_here, tt) s
  from (at.Asks (asking.Fills word)) so s = fills_so p.replies.key word s
  from (at.Asks (asking.GivesUp word)) so s = so_of (at.Asks (asking.GivesUp word)) (on_given_up Is AnyTable p asks same at_here word) s
  from (at.Disposes dispose answer) so s =
      let it = told_in m m2 change (disposed p answer) (dispose_plan dispose) end s in subst Comes (sym it.1) (disposed_as Is AnyTable p answer it.0)
  from (at.Drops (ends.Answered answer)) so s = so_of (at.Drops (ends.Answered answer)) (on_dropped Is AnyTable p asks same at_here (ends.Answered answer) tt) s
  from (at.Drops (ends.Refused fault)) so s = so_of (at.Drops (ends.Refused fault)) (on_dropped Is AnyTable p asks same at_here (ends.Refused fault) so) s
  from (at.Over (ends.Answered answer)) so s = so_of (at.Over (ends.Answered answer)) (at_here, tt) s
  from (at.Over (ends.Refused fault)) so s = so_of (at.Over (ends.Refused fault)) (at_here, so) s

  pub key_so : Step m m2 change (call_plan asks same hash p) end → CallsFor Is end
  key_so s = let so = from p.stands here s in (so_of_stands Is end.0.trial.table end.0.stands so.0, so.1)
