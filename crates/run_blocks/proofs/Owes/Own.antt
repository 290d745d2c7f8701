-- What a step of a call on one key does to its own block: it keeps it, or makes it, or takes it away.
use Rattle.std.specs.Prelude.{◌≡◌, ◌≢◌, ℕ, ◌==◌, Bool, true, false, Option, Some, None, Ok, Err}
use Rattle.std.proofs.Common.{refl, ap, sym, subst, ◌∙◌, eqb-true}
use Rattle.run_debts.specs.Given.SeizeWordsMem.{Mem, Took, value_at}
use Rattle.run_debts.specs.Given.SeizeWordsOp.{Out, Make, Rewrite, Found, Stored, Exchanged, Made, Taken, Roomed}
use Rattle.run_debts.specs.Given.SeizeWordsPlan.{Ends}
use Rattle.run_debts.specs.Given.SeizeWordsWord.{block_in}
use Rattle.run_debts.specs.Given.TablesDeclared.node.Node.{Node}
use Rattle.run_debts.specs.Given.TablesDeclared.node.Node.TheVariants as node
use Rattle.owner_calls.specs.Given.ResizeCopier.{copier_plan}
use Rattle.owner_calls.specs.Given.ResizeDispose.{dispose_plan}
use Rattle.owner_calls.specs.Given.ResizeLookup.{lookup_plan}
use Rattle.owner_calls.specs.Given.ResizeNewTable.{new_table_plan}
use Rattle.owner_calls.specs.Given.ResizeDeclared.lookup.Lookup.{Lookup}
use Rattle.owner_calls.specs.Given.RawCall.{made, makes_of, looked, looks_for, first_made, next_made, disposed, helped, copied, plan_at, call_plan}
use Rattle.owner_calls.specs.Given.RawCallFills.{filled, putting_by, fill_by, emptied, fills_with}
use Rattle.owner_calls.specs.Given.RawCallPoints.{word_to}
use Rattle.owner_calls.specs.Given.RawReplies.{value_for, as_own}
use Rattle.run_debts.specs.Given.RawDeclared.machines.answer.Called.{Called}
use Rattle.run_debts.specs.Given.RawDeclared.machines.answer.End.TheVariants as ends
use Rattle.run_debts.specs.Given.RawDeclared.machines.answer.KeyAnswer.TheVariants as answers
use Rattle.run_debts.specs.Given.RawDeclared.machines.asking.Asking.TheVariants as asking
use Rattle.run_debts.specs.Given.RawDeclared.machines.call.Calling.{Calling}
use Rattle.run_debts.specs.Given.RawDeclared.machines.call.Calling.TheVariants as at
use Rattle.run_debts.specs.Given.RawDeclared.machines.call.KeyCall.{KeyCall}
use Rattle.owner_calls.proofs.Given.RuleKeys.Always.{AlwaysOf, always_plan_as, always_steps}
use Rattle.run_debts.specs.Given.TellsSeen.{seen_of}
use Rattle.run_debts.specs.Given.TellerTells.{observed_of, StepsObserved}
use Rattle.run_debts.specs.Given.EffectsDeclared.changed.Changed.{Changed}
use Rattle.run_debts.specs.Given.EffectsDeclared.changed.Changed.TheVariants as changed
use Rattle.run_debts.specs.Given.EffectsDeclared.changed.Kind.{Kind}
use Rattle.owner_calls.specs.Holds.Came.{OwnsAt, Owns}
use Rattle.owner_calls.proofs.Holds.Calls.Goes.{GoesWith, over_so, counted_so, looked_so, first_so, next_so, helped_so, copied_so, disposed_so, root_so, nexts_so, found_so, tried_so, told_over}
use Rattle.owner_calls.proofs.Holds.Calls.Steps.{names_block, some_word}
use Rattle.run_blocks.proofs.Owes.Walks.{IsToOwn}
use Rattle.run_debts.proofs.Given.ScenesTold.{as_step}

-- no block was made
abbrev pub NoneMade : Changed → Type 0
NoneMade (changed.Made k b) = ⊥
NoneMade _ = Unit {0}

module _ {K V : Type 0} (p : KeyCall K V K) (o : Owns p) (m m2 : Mem (Node K V)) (told : Changed) where
  -- It has its own block still, and where it was to make one it has made none; or it has made it, and had none; or it is taken away.
  pub data OwnGoes (q : KeyCall K V K) : Type 0 where
    HasIt : q.own ≡ p.own → (IsToOwn p.stands → NoneMade told) → OwnGoes q
    MadeIt : (k : Kind) (b : ℕ) → told ≡ changed.Made k b → p.own ≡ 0 → q.own ≢ 0 → block_in q.own ≡ b → OwnGoes q
    TookIt : told ≡ changed.Took (block_in p.own) → OwnGoes q

  abbrev End' : Type 0
  End' = KeyCall K V K × Called (Node K V)

  abbrev own_in : End' → ℕ
  own_in e = e.0.own

  same_own : (e : End') → e.0.own ≡ p.own → NoneMade told → OwnGoes e.0
  same_own e is none = HasIt is (λ its. none)

  -- a block was made for the pair
  made_own : (value : Node K V) (b : ℕ) (e : End') → Took m (Make value 0) (Made (Ok b)) m2 → told ≡ observed_of (Make value 0) (Made (Ok b)) (seen_of m (Make value 0) (Made (Ok b))) → p.own ≡ 0 → (hash : ℕ) → hash ≡ p.hash
      → e.0.own ≡ word_to b hash → OwnGoes e.0
  made_own value b e took is none hash hash_is own =
      let its : e.0.own ≡ word_to b p.hash = own ∙ ap (word_to b) hash_is in
      MadeIt _ b is none (λ z. some_word b p.hash o.code took.0.0.1 took.0.1 (sym its ∙ z)) (ap block_in its ∙ names_block b p.hash o.code took.0.0.1 took.0.1)

  -- none was made
  told_none : (x : Changed) → told ≡ x → NoneMade x → NoneMade told
  told_none x is none = subst NoneMade (sym is) none

  makes_own : p.own ≡ 0 → (unmade : Option (Node K V)) (e : End') → StepsObserved K V End' m changed.Nothing (makes_of p unmade) m2 told e → OwnGoes e.0
  makes_own none None e s = same_own e (ap own_in s.1) (told_none changed.Nothing s.2 tt)
  makes_own none (Some value) e s = by s.0 s.1.0 s.1.1 s.2
    where
      by : (out : Out (Node K V)) → Took m (Make value 0) out m2 → told ≡ observed_of (Make value 0) out (seen_of m (Make value 0) out) → Ends (value_at m2) (made p out) e → OwnGoes e.0
      by (Made (Ok b)) took is end = made_own value b e took is none p.hash refl (ap own_in end)
      by (Made (Err back)) took is end = same_own e (ap own_in end) (told_none _ is tt)
      by _ took is end = absurd took.0

  -- the pair goes into its own block, which is made where there is none
  puts_own : (q : KeyCall K V K) → q.own ≡ p.own → q.hash ≡ p.hash → (b : Bool) → (q.own == 0) ≡ b → (word : ℕ) (key : K) (value : V) (e : End')
      → StepsObserved K V End' m changed.Nothing (putting_by b q word key value) m2 told e → OwnGoes e.0
  puts_own q own hash true none word key value e s = by s.0 s.1.0 s.1.1 s.2
    where
      by : (out : Out (Node K V)) → Took m (Make (node.Pair key value) 0) out m2 → told ≡ observed_of (Make (node.Pair key value) 0) out (seen_of m (Make (node.Pair key value) 0) out)
          → Ends (value_at m2) (filled q word out) e → OwnGoes e.0
      by (Made (Ok b)) took is end = made_own (node.Pair key value) b e took is (sym own ∙ eqb-true q.own 0 none) q.hash hash (ap own_in end)
      by (Made (Err back)) took is end = same_own e (ap own_in end ∙ own) (told_none _ is tt)
      by _ took is end = absurd took.0
  puts_own q own hash false has word key value e s = by s.0 s.1.0 s.1.1 s.2
    where
      by : (out : Out (Node K V)) → Took m (Rewrite (block_in q.own) (node.Pair key value)) out m2
          → told ≡ observed_of (Rewrite (block_in q.own) (node.Pair key value)) out (seen_of m (Rewrite (block_in q.own) (node.Pair key value)) out) → Ends (value_at m2) (filled q word out) e → OwnGoes e.0
      by (Taken back) took is end = same_own e (ap own_in end ∙ own) (told_none _ is tt)
      by _ took is end = absurd took.0

  filled_own : (value : Option V) (word : ℕ) (key : K) (e : End') → StepsObserved K V End' m changed.Nothing (fill_by value (record p { replies = as_own p.replies word }) word key) m2 told e → OwnGoes e.0
  filled_own None word key e s = same_own e (ap own_in s.1) (told_none changed.Nothing s.2 tt)
  filled_own (Some value) word key e s = puts_own (record p { replies = record (as_own p.replies word) { key = None } }) refl refl (p.own == 0) refl word key value e s

  -- a value that was not stored comes out of it first
  emptied_own : (word : ℕ) (out : Out (Node K V)) (e : End') → Ends (value_at m2) (emptied p word out) e → e.0.own ≡ p.own
  emptied_own word (Taken (node.Pair key value)) e end = ap own_in end
  emptied_own word (Taken (node.Table len limit turn)) e end = ap own_in end
  emptied_own word (Taken node.Shards) e end = ap own_in end
  emptied_own word (Found found) e end = ap own_in end
  emptied_own word Stored e end = ap own_in end
  emptied_own word (Exchanged r) e end = ap own_in end
  emptied_own word (Made r) e end = ap own_in end
  emptied_own word (Roomed r) e end = ap own_in end

  fills_own : (key : Option K) (word : ℕ) (e : End') → StepsObserved K V End' m changed.Nothing (fills_with key p word) m2 told e → OwnGoes e.0
  fills_own (Some key) word e s = filled_own (value_for p.replies word) word key e s
  fills_own None word e s = same_own e (emptied_own word s.0 e s.2) (told_none _ s.1.1 tt)

  module _ (asks : K → K → Bool) (same : K → K → Bool) (hash : K → ℕ) (e : End') where
    abbrev ToldAt : Calling → Type 0
    ToldAt stands = StepsObserved K V End' m changed.Nothing (plan_at asks same hash p stands) m2 told e

    -- a point at which it keeps its own block
    at_point : (stands : Calling) → p.stands ≡ stands → (IsToOwn stands → ⊥) → AlwaysOf (GoesWith p.own) (plan_at asks same hash p stands) → ToldAt stands → OwnGoes e.0
    at_point stands is other all s =
        HasIt (always_steps (GoesWith p.own) m m2 (plan_at asks same hash p stands) e all (as_step m changed.Nothing (plan_at asks same hash p stands) m2 told e s)).2
        (λ its. absurd (other (subst IsToOwn is its)))

    looks_own : p.own ≡ 0 → (l : Lookup) (asked : Option K) → AlwaysOf (GoesWith p.own) (looks_for asks p l asked)
    looks_own none l (Some q) = always_plan_as (GoesWith p.own) (looked p) (looked_so p o none) (lookup_plan (asks q) l)
    looks_own none l None = over_so p o (ends.Answered answers.Absent) none

    from : (stands : Calling) → p.stands ≡ stands → OwnsAt p stands → ToldAt stands → OwnGoes e.0
    from at.Makes is a s = makes_own a.0 p.unmade e s
    from (at.Looks l) is a s = at_point (at.Looks l) is (λ z. z) (looks_own a l p.asked) s
    from at.Roots is a s = at_point at.Roots is (λ z. z) (root_so p o) s
    from at.Probes is a s = at_point at.Probes is (λ z. z) (found_so p o asks same) s
    from (at.Tries word new) is a s = at_point (at.Tries word new) is (λ z. z) (tried_so p o asks same word new a) s
    from (at.Counts removed) is a s = at_point (at.Counts removed) is (λ z. z) (λ out. counted_so p o removed a) s
    from at.Nexts is a s = at_point at.Nexts is (λ z. z) (nexts_so p o) s
    from (at.Firsts making) is a s = at_point (at.Firsts making) is (λ z. z) (always_plan_as (GoesWith p.own) (first_made p) (first_so p o) (new_table_plan making)) s
    from (at.Allocs making) is a s = at_point (at.Allocs making) is (λ z. z) (always_plan_as (GoesWith p.own) (next_made p) (next_so p o) (new_table_plan making)) s
    from (at.Helps copier goal) is a s = at_point (at.Helps copier goal) is (λ z. z) (always_plan_as (GoesWith p.own) (helped p goal) (helped_so p o goal) (copier_plan hash copier)) s
    from (at.Copies copier) is a s = at_point (at.Copies copier) is (λ z. z) (always_plan_as (GoesWith p.own) (copied p) (copied_so p o) (copier_plan hash copier)) s
    from (at.Asks (asking.Absent gap)) is a s = same_own e (ap own_in s.1) (told_none changed.Nothing s.2 tt)
    from (at.Asks (asking.Present word)) is a s = same_own e (ap own_in s.1) (told_none changed.Nothing s.2 tt)
    from (at.Asks (asking.Fills word)) is a s = fills_own p.replies.key word e s
    from (at.Asks (asking.GivesUp word)) is a s = TookIt s.1.1
    from (at.Disposes dispose answer) is a s = at_point (at.Disposes dispose answer) is (λ z. z) (always_plan_as (GoesWith p.own) (disposed p answer) (disposed_so p o answer a) (dispose_plan dispose)) s
    from (at.Drops end) is a s = TookIt s.1.1
    from (at.Over end) is a s = at_point (at.Over end) is (λ z. z) (told_over p o end a) s

    pub own_goes : StepsObserved K V End' m changed.Nothing (call_plan asks same hash p) m2 told e → OwnGoes e.0
    own_goes s = from p.stands refl o.point s
