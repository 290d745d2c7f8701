-- A call that asks fills its own block, or gives it up, at the try where it stays.
use Rattle.std.specs.Prelude.{◌+◌, ◌-◌, ◌==◌, Option, None, Some}
use Rattle.std.proofs.Common.{◌≡◌, ℕ, suc, ◌<◌, Bool, true, false, inl, inr, refl, ap, sym, subst, arith}
use Rattle.seize_words.specs.OneMemory.Word.{block_in}
use Rattle.seize_words.specs.OneMemory.Mem.{Mem, Took, value_at, with_value, with_block}
use Rattle.seize_words.specs.OneMemory.Op.{Taken}
use Rattle.seize_words.specs.OneMemory.Plan.{Ends, Steps}
use Rattle.seize_words.proofs.OneMemory.OneOwner.Operations.{made as made_by_step, rewritten, taken}
use Rattle.map_tables.specs.Nodes.{vacant}
use Rattle.map_tables.specs.declared.marks.TheConstants.{TOMBSTONE}
use Rattle.map_tables.specs.declared.node.Node.{Node}
use Rattle.map_tables.specs.declared.node.Node.TheVariants as node
use Rattle.map_tables.specs.declared.setting.Setting.{Setting}
use Rattle.many_calls.specs.Given.RawCallFills.{taken_back, filled, putting_by, fill_by, emptied, fills_with, fills, given_up, gives_up, asks_at}
use Rattle.many_calls.specs.Given.RawCallPoints.{word_to, going}
use Rattle.many_calls.specs.Given.RawReplies.{value_for, as_own, back, back_present, with_back}
use Rattle.many_calls.specs.Given.RawDeclared.machines.answer.Called.{Called}
use Rattle.many_calls.specs.Given.RawDeclared.machines.asking.Asking.{Asking}
use Rattle.many_calls.specs.Given.RawDeclared.machines.asking.Asking.TheVariants as asking
use Rattle.many_calls.specs.Given.RawDeclared.machines.asking.Replies.{Replies}
use Rattle.many_calls.specs.Given.RawDeclared.machines.asking.Told.{Told}
use Rattle.many_calls.specs.Given.RawDeclared.machines.asking.Told.TheVariants as tells
use Rattle.many_calls.specs.Given.RawDeclared.machines.call.KeyCall.{KeyCall}
use Rattle.many_calls.specs.Given.RawDeclared.machines.call.Calling.TheVariants as at
use Rattle.many_calls.specs.Given.RuleChart.{Chart}
use Rattle.many_calls.specs.Given.RuleMaps.{IsTrial}
use Rattle.many_calls.specs.Given.RuleWords.{Blocks}
use Rattle.many_calls.specs.Given.PointsMeasures.{IsBelow}
use Rattle.map_measures.specs.Falls.Room.{tables_to_come}
use Rattle.map_measures.specs.Falls.Calls.{to_empty, stale, trying, number_at_asking, number_of_call}
use Rattle.map_measures.specs.Falls.Falls.{GoesFurther}
use Rattle.map_measures.proofs.Falls.Onward.{Onward, KeepsTables, links_kept, past_kept, value_before, value_after}
use Rattle.map_measures.proofs.Falls.Kept.{keeps_made, keeps_rewritten, keeps_taken}
use Rattle.map_measures.proofs.Falls.Stands.{HasPairInside, AskingStands}
use Rattle.map_measures.proofs.Falls.Calls.TrySeen.{stale_kept}
use Rattle.seize_words.proofs.General.{some_is as is_some_of}

-- once its pair is out of its block, a call has its key
key_back : {K V : Type 0} (r : Replies K V) (key : K) (value : V) → to_empty (with_back r key value).key ≡ 0
key_back r key value = by r.absent
  where
    present : (told : Told _) → to_empty (back_present told (record r { key = Some key }) value).key ≡ 0
    present tells.Own = refl
    present tells.Nothing = refl
    present (tells.Value other) = refl
    present tells.Removes = refl

    by : (told : Told _) → to_empty (back told (record r { key = Some key }) value).key ≡ 0
    by tells.Own = refl
    by tells.Nothing = present r.present
    by (tells.Value other) = present r.present
    by tells.Removes = present r.present

module _ {K V Q : Type 0} (same : K → K → Bool) (hash : K → ℕ) (setting : Setting) (m : Mem (Node K V)) (c : Chart K) (blocks : Blocks) (m2 : Mem (Node K V)) (c2 : Chart K) (blocks2 : Blocks)
    (on : Onward same hash setting m c blocks m2 c2 blocks2) (p : KeyCall K V Q) (end : KeyCall K V Q × Called (Node K V)) where
  abbrev Goal : Asking → KeyCall K V Q × Called (Node K V) → Type 0
  Goal asks e = GoesFurther e.1 → IsBelow (number_of_call hash c2 blocks2 e.0) (number_at_asking hash c blocks p asks)

  ends_as : (asks : Asking) (e : KeyCall K V Q × Called (Node K V)) → end ≡ e → Goal asks e → Goal asks end
  ends_as asks e is = subst (λ (x : KeyCall K V Q × Called (Node K V)). Goal asks x) (sym is)

  module _ (t j : ℕ) (trial : IsTrial c blocks p.trial p.hash t j) (word : ℕ) where
    -- where the words of tables are kept, the place of its try is as it was, and what is left there counts
    stays : KeepsTables setting.root c blocks m m2 → (after before : ℕ) → (stale hash c2 blocks2 p word ≡ stale hash c blocks p word → after < before)
        → IsBelow (trying hash c2 blocks2 p after) (trying hash c blocks p before)
    stays keeps after before lower =
        let past = past_kept same hash setting m c blocks m2 c2 blocks2 on (links_kept setting.root c blocks m m2 keeps) in
        inr (
          refl,
          inr (
            ap (λ x. tables_to_come x 0) past,
            inr (ap (λ x. x - p.trial.table.turn) past, inr (refl, inr (refl, inl (lower (stale_kept same hash setting m c blocks m2 c2 blocks2 on p t j trial keeps word))))),
          ),
        )

    -- its own block is filled
    tries_filled : KeepsTables setting.root c blocks m m2 → IsBelow (trying hash c2 blocks2 p (stale hash c2 blocks2 p word)) (number_at_asking hash c blocks p (asking.Fills word))
    tries_filled keeps = stays keeps (stale hash c2 blocks2 p word) (suc (to_empty p.replies.key + stale hash c blocks p word)) (λ same_stale. omega (arith, same_stale))

    on_putting : (replies : Replies K V) (key : K) (value : V) (bare : Bool) → Steps Took value_at m (putting_by bare (record p { replies = replies }) word key value) m2 end → Goal (asking.Fills word) end
    on_putting replies key value true s =
        elim (made_by_step m (filled (record p { replies = replies }) word) (node.Pair key value) 0 m2 end s) as (λ _. Goal (asking.Fills word) end) [
          | inl d ↦ ends_as (asking.Fills word) (going (record p { replies = replies; own = word_to d.0 p.hash }) (at.Tries word (word_to d.0 p.hash))) d.3
              (λ goes. tries_filled (keeps_made setting.root c blocks m (node.Pair key value) 0 d.0 d.1.0 m2 d.2 (value_before same hash setting m c blocks m2 c2 blocks2 on)))
          | inr d ↦ ends_as (asking.Fills word) _ d.3 (λ goes. inl (omega arith))
        ]
    on_putting replies key value false s =
        let d = rewritten m (filled (record p { replies = replies }) word) (block_in p.own) (node.Pair key value) m2 end s in
        ends_as (asking.Fills word) (going (record p { replies = replies }) (at.Tries word p.own)) d.3
        (λ goes. tries_filled (keeps_rewritten setting.root c blocks m (block_in p.own) (node.Pair key value) m2 d.2 (is_some_of _ _ d.1)))

    -- the pair in it comes out first
    on_emptied : p.replies.key ≡ None → (pair : (key : K) × (value : V) × (value_at m (block_in p.own) ≡ Some (node.Pair key value)))
        → Steps Took value_at m (fills_with None p word) m2 end → Goal (asking.Fills word) end
    on_emptied out (key, value, there) s =
        let d = rewritten m (emptied p word) (block_in p.own) vacant m2 end s in
        let was : d.0 ≡ node.Pair key value = cc (there, d.1) in
        ends_as (asking.Fills word) (going (taken_back p key value) (at.Asks (asking.Fills word)))
        (subst (λ (x : Node K V). Ends (value_at (with_value m (block_in p.own) vacant)) (emptied p word (Taken x)) end) was d.3)
        (λ goes. stays (keeps_rewritten setting.root c blocks m (block_in p.own) vacant m2 d.2 (is_some_of _ _ d.1))
        (suc (to_empty (with_back p.replies key value).key + stale hash c2 blocks2 p word)) (suc (to_empty p.replies.key + stale hash c blocks p word))
        (λ same_stale. let gone = key_back p.replies key value in let was_there : to_empty p.replies.key ≡ 1 = ap to_empty out in omega (arith, same_stale, gone, was_there)))

    on_fills : (value : V) → value_for p.replies word ≡ Some value → HasPairInside setting m c blocks p → Steps Took value_at m (fills p word) m2 end → Goal (asking.Fills word) end
    on_fills value told inside s = by p.replies.key refl s
      where
        by : (key : Option K) → p.replies.key ≡ key → Steps Took value_at m (fills_with key p word) m2 end → Goal (asking.Fills word) end
        by None out s = on_emptied out (inside out) s
        by (Some key) out s =
            on_putting (record (as_own p.replies word) { key = None }) key value (p.own == 0)
            (subst (λ (v : Option V). Steps Took value_at m (fill_by v (record p { replies = as_own p.replies word }) word key) m2 end) told s)

    -- its own block is given up
    on_gives_up : Steps Took value_at m (gives_up p word) m2 end → Goal (asking.GivesUp word) end
    on_gives_up s = let d = taken m (given_up p word) (block_in p.own) m2 end s in by d.0 (keeps_taken setting.root c blocks m (block_in p.own) d.0 d.1 m2 d.2 (value_after same hash setting m c blocks m2 c2 blocks2 on)) d.3
      where
        tries : KeepsTables setting.root c blocks m m2 → IsBelow (trying hash c2 blocks2 p (stale hash c2 blocks2 p word)) (number_at_asking hash c blocks p (asking.GivesUp word))
        tries keeps = stays keeps (stale hash c2 blocks2 p word) (suc (stale hash c blocks p word)) (λ same_stale. omega (arith, same_stale))

        by : (value : Node K V) → KeepsTables setting.root c blocks m m2 → Ends (value_at (with_block m (block_in p.own) None)) (given_up p word (Taken value)) end → Goal (asking.GivesUp word) end
        by (node.Pair key value) keeps ends = ends_as (asking.GivesUp word) (going (taken_back (record p { own = 0 }) key value) (at.Tries word TOMBSTONE)) ends (λ goes. tries keeps)
        by (node.Table len limit turn) keeps ends = ends_as (asking.GivesUp word) (going (record p { own = 0 }) (at.Tries word TOMBSTONE)) ends (λ goes. tries keeps)
        by node.Shards keeps ends = ends_as (asking.GivesUp word) (going (record p { own = 0 }) (at.Tries word TOMBSTONE)) ends (λ goes. tries keeps)

  pub on_asking : (asks : Asking) → AskingStands setting m c blocks p asks → Steps Took value_at m (asks_at p asks) m2 end → Goal asks end
  on_asking (asking.Absent gap) f s = ends_as (asking.Absent gap) _ s.1 (λ goes. absurd goes)
  on_asking (asking.Present word) f s = ends_as (asking.Present word) _ s.1 (λ goes. absurd goes)
  on_asking (asking.Fills word) f s = on_fills f.0.0 f.0.1 f.0.2 word f.1.0 f.1.1 f.2 s
  on_asking (asking.GivesUp word) f s = on_gives_up f.0 f.1 f.2 word s
