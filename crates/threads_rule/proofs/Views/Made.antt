-- What a caller has made, and not linked, has its value through what others do; and the own pair of a call under way is such a block.
use Rattle.std.specs.Prelude.{◌≢◌, Some, Option}
use Rattle.std.proofs.Common.{◌≡◌, ℕ, Bool, inl, inr, refl, sym, subst, ap, ◌∙◌}
use Rattle.seize_words.specs.OneMemory.Mem.{Mem, Took, value_at}
use Rattle.seize_words.specs.OneMemory.Plan.{Steps}
use Rattle.seize.specs.World.{World, Hand, Handed, Making, Step, Begin, Request, Register', Enter', Leave', LeaveOwned, Refresh, Unregister', Retire, Flush, Defer', Happens}
use Rattle.seize.specs.declared.advance.Advance.{Advance as Told}
use Rattle.map_tables.specs.Nodes.{deferred_word}
use Rattle.map_tables.specs.declared.node.Node.{Node}
use Rattle.map_tables.specs.declared.node.Node.TheVariants.{Shards}
use Rattle.map_tables.specs.declared.setting.Setting.{Setting}
use Rattle.map_machines.specs.NewMap.{new_map_plan}
use Rattle.map_machines.specs.declared.new_map.NewMap.{NewMap}
use Rattle.papaya_raw.specs.declared.machines.machine.Machine.{Machine}
use Rattle.papaya_raw.specs.declared.machines.progress.Progress.{Progress}
use Rattle.map_straight.specs.Given.RuleInWorld.{IsHeldBy, PreservesBlocks}
use Rattle.map_straight.proofs.Given.RuleWorld.OthersSpared.{held_once, keeps_same, keeps_then, keeps_handed}
use Rattle.many_acts.specs.Given.CallersTogether.{UnderWay, OnKey, ForRoom, Counting, OverAll, IsOneStep, HandsOver}
use Rattle.many_acts.proofs.Given.CallersRows.Beside.{row_keeps_blocks}
use Rattle.many_acts.proofs.Given.CallersTogether.Came.{came_reached}
use Rattle.many_acts.specs.Given.FinishesMachines.{MachineStepsWithEndings, DidOfKind}
use Rattle.many_acts.specs.Given.FinishesMakings.{Beginning}
use Rattle.many_acts.specs.Given.FinishesMaps.{Standing}
use Rattle.many_acts.proofs.Given.FinishesBeside.Makings.Promised.{makings_went}
use Rattle.many_acts.specs.Given.ScenesScene.{Scene, slot_of}
use Rattle.many_acts.specs.Looks.Sees.{IsOwnOf}
use Rattle.many_acts.proofs.Looks.Sees.Made.{own_pairs_made}
use Rattle.many_acts.specs.Acts.Leads.{AllStand}
use Rattle.seize_model.proofs.Alone.Histories.Reached.{Reached, happens_reached}
use Rattle.seize_views.specs.declared.view.SlotView.{SlotView}
use Rattle.threads_rule.specs.Views.Rule.{DoesSo, KnowsMap}
use Rattle.threads_rule.specs.declared.view.Map.{Map}
use Rattle.threads_rule.specs.declared.view.SeatWork.TheVariants.{Calls}

module _ {K V : Type 0} where
  -- what this caller has made has its value, but for counters
  abbrev pub KeepsMade : World (Node K V) → World (Node K V) → ℕ → Type 0
  KeepsMade w v k = (b : ℕ) (x : Node K V) → w.hand b ≡ Making k → value_at w.memory b ≡ Some x → x ≢ Shards → value_at v.memory b ≡ Some x

  pub made_kept : (w : World (Node K V)) (m2 : Mem (Node K V)) (hand2 : ℕ → Hand) (k : ℕ) → PreservesBlocks k w.memory w.hand m2 hand2 → (b : ℕ) (x : Node K V) → w.hand b ≡ Making k
      → value_at w.memory b ≡ Some x → x ≢ Shards → value_at m2 b ≡ Some x
  made_kept w m2 hand2 k keeps b x made is other = (keeps.blocks b x is other (subst (IsHeldBy k) (sym made) refl)).1

  -- through a step of a row
  pub row_keeps : (size : ℕ) (w v : World (Node K V)) (i : ℕ) → Reached deferred_word size w → Happens deferred_word size (Step i) w v → (k : ℕ) → KeepsMade w v k
  row_keeps size w v i r step k = made_kept w v.memory v.hand k (row_keeps_blocks size w r i v step k)

  module _ (setting : Setting) (i : ℕ) (w v : World (Node K V)) (r : Reached deferred_word setting.batch_size w) (k : ℕ) (ne : k ≢ i) where
    begun_keeps : (request : Request) (begun : World (Node K V)) → HandsOver setting i w request → Happens deferred_word setting.batch_size (Begin i request) w begun
        → PreservesBlocks k w.memory w.hand begun.memory begun.hand
    begun_keeps (Retire s b) begun hands h =
        subst (λ (x : World (Node K V)). PreservesBlocks k w.memory w.hand x.memory x.hand) (sym h.1.2)
        (keeps_handed k w.memory w.hand b Handed (λ theirs. ne (held_once k i (w.hand b) theirs hands.1)))
    begun_keeps (Defer' s b t) begun hands h =
        subst (λ (x : World (Node K V)). PreservesBlocks k w.memory w.hand x.memory x.hand) (sym h.1.7)
        (keeps_handed k w.memory w.hand b Handed (λ theirs. ne (held_once k i (w.hand b) theirs hands.1)))
    begun_keeps (Register' enters) begun hands h = absurd hands
    begun_keeps (Enter' s) begun hands h = absurd hands
    begun_keeps (Leave' s) begun hands h = absurd hands
    begun_keeps (LeaveOwned s) begun hands h = absurd hands
    begun_keeps (Refresh s) begun hands h = absurd hands
    begun_keeps (Unregister' s) begun hands h = absurd hands
    begun_keeps (Flush s) begun hands h = absurd hands

    within_keeps : IsOneStep setting i w v → PreservesBlocks k w.memory w.hand v.memory v.hand
    within_keeps (inl step) = row_keeps_blocks setting.batch_size w r i v step k
    within_keeps (inr (request, begun, hands, first, after)) =
        keeps_then k w.memory begun.memory v.memory w.hand begun.hand v.hand (begun_keeps request begun hands first)
        (row_keeps_blocks setting.batch_size begun (happens_reached deferred_word setting.batch_size (Begin i request) w begun r first) i v after k)

module _ {K V S : Type 0} (same : K → K → Bool) (hash : S → K → ℕ) (batch_size roots : ℕ) (s : Scene K V) (all : AllStand same hash batch_size roots slot_of s) where
  abbrev w : World (Node K V)
  w = s.world

  -- through a step of another one's call
  module _ (m : ℕ) (it : Standing K) (stands : s.maps m ≡ Some it) (i : ℕ) (u : UnderWay K V K) (m2 : Mem (Node K V)) (machine : Machine K V K) (told : Progress (Node K V))
      (did : MachineStepsWithEndings V same same batch_size roots slot_of s.world s.maps s.calls s.makers s.enders m it i m2 u machine told) (k : ℕ) (ne : k ≢ i) where
    reached : Reached deferred_word it.setting.batch_size w
    reached =
        let came = all.makings.standing.came in
        subst (λ (n : ℕ). Reached deferred_word n w) (sym (all.makings.standing.fit m it stands).2) (came_reached batch_size w came)

    come : (v : World (Node K V)) → did.w2 ≡ v → PreservesBlocks k w.memory w.hand v.memory v.hand → PreservesBlocks k w.memory w.hand did.w2.memory did.w2.hand
    come v is keeps = subst (λ (x : World (Node K V)). PreservesBlocks k w.memory w.hand x.memory x.hand) (sym is) keeps

    by : (u : UnderWay K V K) → DidOfKind V same same batch_size roots slot_of w s.maps s.calls s.makers s.enders m it i m2 did.w2 did.maps2 did.next u machine told
        → PreservesBlocks k w.memory w.hand did.w2.memory did.w2.hand
    by (OnKey c) (p2, end, e, f, inl (to, moved)) = come to.step.went.w2 moved.0 (to.step.went.spares k ne)
    by (OnKey c) (p2, end, e, f, inr (to, stayed)) = come to.step.w2 stayed.0 (within_keeps it.setting i w to.step.w2 reached k ne to.step.happened)
    by (ForRoom c) (p2, end, e, f, inl (to, moved)) = come to.step.went.w2 moved.0 (to.step.went.spares k ne)
    by (ForRoom c) (p2, end, e, f, inr (to, stayed)) = come to.step.w2 stayed.0 (within_keeps it.setting i w to.step.w2 reached k ne to.step.happened)
    by (Counting c) (sum2, end, e, f, g, stayed) = come w stayed.0 (keeps_same k w.memory w.hand)
    by (OverAll c) (p2, end, e, f, inl (to, moved)) = come to.step.went.w2 moved.0 (to.step.went.spares k ne)
    by (OverAll c) (p2, end, e, f, inr (to, stayed)) = come to.step.w2 stayed.0 (within_keeps it.setting i w to.step.w2 reached k ne to.step.happened)

    pub call_keeps : KeepsMade w did.w2 k
    call_keeps = made_kept w did.w2.memory did.w2.hand k (by u did.did)

  -- through a step by which another one makes a map
  pub making_keeps : (i : ℕ) (b : Beginning K) → s.makers i ≡ Some b → (m2 : Mem (Node K V)) (end : NewMap × Told Setting) → Steps Took value_at w.memory (new_map_plan {K = K} {V = V} b.machine) m2 end
      → (v : World (Node K V)) → v.memory ≡ m2 → (k : ℕ) → k ≢ i → KeepsMade w v k
  making_keeps i b makes m2 end steps v memory k ne x value made is other =
      let went = (makings_went {Q = K} V same same batch_size roots slot_of w s.maps s.calls s.makers all.makings i b makes).1 m2 end steps in
      ap (λ (m : Mem (Node K V)). value_at m x) (memory ∙ sym went.memory) ∙ made_kept w went.w2.memory went.w2.hand k (went.left.own k ne) x value made is other

  -- the own pair of the call that a seat has under way is its caller's
  pub own_is_made : (i : ℕ) (under : Option (ℕ × ℕ)) (slot : SlotView (Node K V)) (map : Map S) (machine : Machine K V K) → DoesSo same hash s i under slot (Some map) (Calls machine) → KnowsMap same hash s (Some map)
      → (b : ℕ) → IsOwnOf machine b → (w.hand b ≡ Making i) × (value : Node K V) × (value_at w.memory b ≡ Some value) × (value ≢ Shards)
  own_is_made i under slot map machine does knows b own =
      own_pairs_made V same same batch_size roots slot_of w s.maps s.calls s.makers s.enders all map.number knows.0 knows.1 i does.3.call does.3.here b
      (subst (λ (x : Machine K V K). IsOwnOf x b) (sym does.3.is) own)
