-- Each step of a call that asks, for one owner, leaves it undisturbed.
use Rattle.std.specs.Prelude.{◌==◌, Option, Some, None, Ok, Err}
use Rattle.std.proofs.Common.{◌≡◌, ℕ, Bool, true, false, refl, sym, ap, subst}
use Rattle.seize_words.specs.OneMemory.Mem.{Mem, value_at, Took}
use Rattle.seize_words.specs.OneMemory.Op.{Found, Stored, Exchanged, Made, Taken, Roomed}
use Rattle.seize_words.specs.OneMemory.Plan.{Steps}
use Rattle.papaya_raw.specs.Call.{root_read, roots, next_read, nexts, key_read, pair_read, word_read, probes, tries, first_made, next_made, disposed, helped, copied, plan_at}
use Rattle.papaya_raw.specs.CallFills.{putting_by, fill_by, fills_with, fills, asks_at}
use Rattle.papaya_raw.specs.CallPoints.{aim_of, told}
use Rattle.papaya_raw.specs.Replies.{as_own}
use Rattle.map_tables.specs.Finding.{may_name, finding}
use Rattle.map_tables.specs.declared.finding.Finding.TheVariants as finds
use Rattle.map_tables.specs.declared.node.Node.{Node}
use Rattle.map_tables.specs.declared.node.Node.TheVariants as node
use Rattle.owner_calls.specs.Given.ResizeCopier.{copier_plan}
use Rattle.owner_calls.specs.Given.ResizeDispose.{dispose_plan}
use Rattle.owner_calls.specs.Given.ResizeNewTable.{new_table_plan}
use Rattle.papaya_raw.specs.declared.machines.answer.Called.{Called}
use Rattle.papaya_raw.specs.declared.machines.answer.End.{End}
use Rattle.papaya_raw.specs.declared.machines.answer.End.TheVariants as ends
use Rattle.papaya_raw.specs.declared.machines.asking.Asking.{Asking}
use Rattle.papaya_raw.specs.declared.machines.asking.Asking.TheVariants as asking
use Rattle.papaya_raw.specs.declared.machines.call.KeyCall.{KeyCall}
use Rattle.papaya_raw.specs.declared.machines.call.Calling.{Calling}
use Rattle.papaya_raw.specs.declared.machines.call.Calling.TheVariants as at
use Rattle.owner_calls.proofs.Given.RuleKeys.Always.{Always, AlwaysOf, always_if, always_ends, always_plan_as, always_steps}
use Rattle.owner_asks.proofs.Asks.Asks.Undisturbed.{AsksThere, AsksMissing, AsksFor, word_made, free_is, IsBare, WordIs, IsToFill, Undisturbed, UndisturbedAt, StaysSo, stays_counted, stays_disposed, stays_changed, stays_tableless, stays_last, stays_told, stays_entering, stays_on, stays_first, stays_next, stays_helped, stays_copied}

module _ {K V Q : Type 0} (its : Option K) (known value : Option V) (seeks : Bool) (has_key : (v : V) → known ≡ Some v → (value ≡ Some v) × (k : K) × (its ≡ Some k))
    (asks : Q → K → Bool) (same : K → K → Bool) (hash : K → ℕ) (p : KeyCall K V Q) (there_is : AsksThere p.there) (absent_is : AsksMissing p.missing) (m m2 : Mem (Node K V)) where
  abbrev So : KeyCall K V Q × Called (Node K V) → Type 0
  So = StaysSo its known value seeks m2

  -- what is so of each outcome is so of this one
  always_at : (stands : Calling) → AlwaysOf So (plan_at asks same hash p stands) → (end : KeyCall K V Q × Called (Node K V)) → Steps Took value_at m (plan_at asks same hash p stands) m2 end → So end
  always_at stands all end s = always_steps So m m2 (plan_at asks same hash p stands) end all s

  module _ (seek : seeks ≡ true) (bare : IsBare its known p) where
    -- the word of its try was read
    module _ (word : ℕ) (is : WordIs m2 p word) where
      on_told : (b : Bool) → So (told true p word b)
      on_told b =
          stays_told its known value seeks m2 p there_is absent_is seek bare has_key word is (finding p.setting.mode (aim_of p.missing) word b)
          (λ e asks_it. free_is p.setting.mode word b (subst (λ x. finding p.setting.mode (aim_of x) word b ≡ finds.Free) asks_it e))

      on_key : (key : Option K) → Always So (key_read asks same true p word key)
      on_key (Some key) = λ value_there. on_told _
      on_key None = λ own value_there. on_told _

      on_pair : (asked : Option Q) → Always So (pair_read asks same true p word asked)
      on_pair (Some q) = λ value_there. on_told _
      on_pair None = on_key p.replies.key

      on_word : Always So (word_read asks same true p word)
      on_word = always_if So (may_name p.hash word) _ _ (on_pair p.asked) (on_told false)

    from_probes : (end : KeyCall K V Q × Called (Node K V)) → Steps Took value_at m (probes asks same p) m2 end → So end
    from_probes end (Found word, took, e) = always_ends So (value_at m2) (word_read asks same true p word) end (on_word word (subst (λ x. WordIs x p word) (sym took.1) took.0)) e
    from_probes end (Stored, took, e) = absurd took.0
    from_probes end (Exchanged r, took, e) = absurd took.0
    from_probes end (Made r, took, e) = absurd took.0
    from_probes end (Taken value_out, took, e) = absurd took.0
    from_probes end (Roomed r, took, e) = absurd took.0

    from_roots : (end : KeyCall K V Q × Called (Node K V)) → Steps Took value_at m (roots p) m2 end → So end
    from_roots end (Found link, took, e) =
        always_ends So (value_at m2) (root_read p link) end
        (always_if So (link == 0) _ _ (stays_tableless its known value seeks m2 p there_is absent_is seek bare has_key p.missing absent_is)
        (λ value_there. stays_entering its known value seeks m2 p there_is absent_is seek bare has_key _)) e
    from_roots end (Stored, took, e) = absurd took.0
    from_roots end (Exchanged r, took, e) = absurd took.0
    from_roots end (Made r, took, e) = absurd took.0
    from_roots end (Taken value_out, took, e) = absurd took.0
    from_roots end (Roomed r, took, e) = absurd took.0

    from_nexts : (end : KeyCall K V Q × Called (Node K V)) → Steps Took value_at m (nexts p) m2 end → So end
    from_nexts end (Found link, took, e) =
        always_ends So (value_at m2) (next_read p link) end
        (always_if So (link == 0) _ _ (stays_last its known value seeks m2 p there_is absent_is seek bare has_key p.missing absent_is)
        (λ value_there. stays_on its known value seeks m2 p there_is absent_is seek bare has_key _)) e
    from_nexts end (Stored, took, e) = absurd took.0
    from_nexts end (Exchanged r, took, e) = absurd took.0
    from_nexts end (Made r, took, e) = absurd took.0
    from_nexts end (Taken value_out, took, e) = absurd took.0
    from_nexts end (Roomed r, took, e) = absurd took.0

  -- the word is as it was, and is replaced
  from_tries : (word new : ℕ) → WordIs m p word → (end : KeyCall K V Q × Called (Node K V)) → Steps Took value_at m (tries asks same p word new) m2 end → So end
  from_tries word new is end (Exchanged (Ok found), took, e) = subst So (sym e) (stays_changed its known value seeks m2 p there_is absent_is word new)
  from_tries word new is end (Exchanged (Err found), took, e) = absurd (took.0.1 (let there = took.0.0 in cc (there, is)))
  from_tries word new is end (Found w, took, e) = absurd took.0
  from_tries word new is end (Stored, took, e) = absurd took.0
  from_tries word new is end (Made r, took, e) = absurd took.0
  from_tries word new is end (Taken value_out, took, e) = absurd took.0
  from_tries word new is end (Roomed r, took, e) = absurd took.0

  -- its own block is made, and the word is as it was; or what it was to store comes back
  from_fills : (word : ℕ) → IsToFill its value p word → WordIs m p word → (end : KeyCall K V Q × Called (Node K V)) → Steps Took value_at m (fills p word) m2 end → So end
  from_fills word (own, k, key, in_hand, v, store, told_it) is end s =
      by
      (subst (λ (b : Bool). Steps Took value_at m (putting_by b emptied word k v) m2 end) (ap (λ (n : ℕ). n == 0) own)
      (subst (λ (o : Option V). Steps Took value_at m (fill_by o (record p { replies = as_own p.replies word }) word k) m2 end) told_it
      (subst (λ (o : Option K). Steps Took value_at m (fills_with o p word) m2 end) in_hand s)))
    where
      emptied : KeyCall K V Q
      emptied = record p { replies = record (as_own p.replies word) { key = None } }

      by : Steps Took value_at m (putting_by true emptied word k v) m2 end → So end
      by (Made (Ok block), took, e) =
          subst So (sym e)
          (record { present = there_is; absent = absent_is; point = subst (λ x. WordIs x p word) (sym took.1) (word_made m (node.Pair k v) 0 block took.0.0 _ _ word is) })
      by (Made (Err back), took, e) = subst So (sym e) (tt, k, v, key, store, took.0)
      by (Found w, took, e) = absurd took.0
      by (Stored, took, e) = absurd took.0
      by (Exchanged r, took, e) = absurd took.0
      by (Taken value_out, took, e) = absurd took.0
      by (Roomed r, took, e) = absurd took.0

  -- it asks again, what it has asked
  asks_again : (a : Asking) → p.stands ≡ at.Asks a → Undisturbed its known value seeks m p → UndisturbedAt its known value seeks m p (at.Asks a)
      → (end : KeyCall K V Q × Called (Node K V)) → Steps Took value_at m (asks_at p a) m2 end → So end
  asks_again (asking.Absent gap) here h point end s =
      subst So (sym s.1) (subst (λ x. Undisturbed its known value seeks x p) (sym s.0) h, subst (AsksFor None) (sym here) tt)
  asks_again (asking.Present word) here h point end s =
      subst So (sym s.1) (subst (λ x. Undisturbed its known value seeks x p) (sym s.0) h, subst (AsksFor (Some word)) (sym here) refl)
  asks_again (asking.Fills word) here h point end s = from_fills word point.0 point.1 end s
  asks_again (asking.GivesUp word) here h point end s = absurd point

  is_over : (last : End) → UndisturbedAt its known value seeks m p (at.Over last) → (end : KeyCall K V Q × Called (Node K V))
      → Steps Took value_at m (plan_at asks same hash p (at.Over last)) m2 end → So end
  is_over (ends.Answered answer) point end s = subst So (sym s.1) tt
  is_over (ends.Refused fault) point end s = subst So (sym s.1) point

  from_point : (stands : Calling) → p.stands ≡ stands → Undisturbed its known value seeks m p → UndisturbedAt its known value seeks m p stands
      → (end : KeyCall K V Q × Called (Node K V)) → Steps Took value_at m (plan_at asks same hash p stands) m2 end → So end
  from_point at.Makes here h point end s = absurd point
  from_point (at.Looks lookup) here h point end s = absurd point
  from_point at.Roots here h point end s = from_roots point.0 point.1 end s
  from_point at.Probes here h point end s = from_probes point.0 point.1 end s
  from_point (at.Tries word new) here h point end s = from_tries word new point end s
  from_point (at.Counts removed) here h point end s =
      always_at (at.Counts removed) (λ out. stays_counted its known value seeks m2 p there_is absent_is removed) end s
  from_point at.Nexts here h point end s = from_nexts point.0 point.1 end s
  from_point (at.Firsts making) here h point end s =
      always_at (at.Firsts making)
      (always_plan_as So (first_made p) (stays_first its known value seeks m2 p there_is absent_is point.0 point.1 has_key) (new_table_plan making)) end s
  from_point (at.Allocs making) here h point end s =
      always_at (at.Allocs making)
      (always_plan_as So (next_made p) (stays_next its known value seeks m2 p there_is absent_is point.0 point.1 has_key) (new_table_plan making)) end s
  from_point (at.Helps copier goal) here h point end s =
      always_at (at.Helps copier goal)
      (always_plan_as So (helped p goal) (stays_helped its known value seeks m2 p there_is absent_is point.0 point.1 has_key goal) (copier_plan hash copier)) end s
  from_point (at.Copies copier) here h point end s =
      always_at (at.Copies copier)
      (always_plan_as So (copied p) (stays_copied its known value seeks m2 p there_is absent_is point.0 point.1 has_key) (copier_plan hash copier)) end s
  from_point (at.Asks a) here h point end s = asks_again a here h point end s
  from_point (at.Disposes dispose answer) here h point end s =
      always_at (at.Disposes dispose answer)
      (always_plan_as So (disposed p answer) (stays_disposed its known value seeks m2 p there_is absent_is answer) (dispose_plan dispose)) end s
  from_point (at.Drops last) here h point end s = absurd point
  from_point (at.Over last) here h point end s = is_over last point end s

-- whatever a step comes to
pub stays_undisturbed : {K V Q : Type 0} (its : Option K) (known value : Option V) (seeks : Bool) → ((v : V) → known ≡ Some v → (value ≡ Some v) × (k : K) × (its ≡ Some k))
    → (asks : Q → K → Bool) (same : K → K → Bool) (hash : K → ℕ) (p : KeyCall K V Q) (m m2 : Mem (Node K V)) → Undisturbed its known value seeks m p
    → (end : KeyCall K V Q × Called (Node K V)) → Steps Took value_at m (plan_at asks same hash p p.stands) m2 end → StaysSo its known value seeks m2 end
stays_undisturbed its known value seeks has_key asks same hash p m m2 h end s =
    from_point its known value seeks has_key asks same hash p h.present h.absent m m2 p.stands refl h h.point end s
