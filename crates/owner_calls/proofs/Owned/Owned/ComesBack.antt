-- The pair that a call on one key was begun with comes back by its run, unless it is in the map then.
use Rattle.std.specs.Prelude.{◌≡◌, ℕ, Bool, Option, Some, Result, ◌⊎◌}
use Rattle.std.specs.Int.{IsPowerOfTwo}
use Rattle.std.proofs.Common.{refl, sym, subst, inl, inr}
use denote.Ref.{Bor}
use Rattle.seize_words.specs.OneMemory.Mem.{Mem, Took, value_at}
use Rattle.seize_words.specs.OneMemory.Plan.{Plan, Steps}
use Rattle.seize_words.specs.declared.fault.Fault.{Fault}
use Rattle.seize.specs.declared.advance.Advance.{Advance}
use Rattle.map_tables.specs.Chunks.{is_incremental}
use Rattle.map_tables.specs.declared.node.Node.{Node}
use Rattle.map_tables.specs.declared.setting.Setting.{Setting}
use Rattle.papaya_raw.specs.Answers.{ended}
use Rattle.papaya_raw.specs.Call.{call_plan, plan_at}
use Rattle.papaya_raw.specs.declared.machines.answer.Called.{Called}
use Rattle.papaya_raw.specs.declared.machines.answer.Called.TheVariants as called
use Rattle.papaya_raw.specs.declared.machines.answer.End.{End}
use Rattle.papaya_raw.specs.declared.machines.answer.End.TheVariants as ends
use Rattle.papaya_raw.specs.declared.machines.call.KeyCall.{KeyCall}
use Rattle.papaya_raw.specs.declared.machines.call.Calling.{Calling}
use Rattle.papaya_raw.specs.declared.machines.call.Calling.TheVariants as at
use Rattle.map_straight.specs.Given.RuleChart.{Chart}
use Rattle.map_straight.specs.Given.RuleMaps.{spot_of}
use Rattle.map_straight.specs.Given.RuleRule.{Rule}
use Rattle.map_straight.specs.Given.RuleWords.{Blocks}
use Rattle.owner_whole.specs.Given.PointsSteps.{AreLawful}
use Rattle.owner_whole.specs.Given.CallersKind.{Kind}
use Rattle.owner_whole.specs.Given.CallersPairs.{Begun}
use Rattle.owner_whole.specs.Strides.Ending.{RunsTo}
use Rattle.owner_calls.specs.Owned.Machines.{on_key_settled, on_key_plan}
use Rattle.owner_calls.specs.Owned.Owned.{IsReturned}
use Rattle.owner_calls.specs.declared.machines.OnKey.{OnKey}
use Rattle.owner_calls.specs.declared.machines.Stop.{Stop}
use Rattle.owner_calls.proofs.Owned.Owned.HandsBack.{HasPair, KeepsPair, IsOver, pair_kept}
use Rattle.owner_calls.proofs.Owned.Owned.Keys.{Under, Course, StopsAt, leading, under_back, under_step}
use Rattle.owner_whole.proofs.Strides.Runs.Comes.{NextOf, next_both, run_comes}

-- it tells how it has ended
abbrev pub TellsEnd : {T : Type 0} → Called T → Type 0
TellsEnd (called.Done answer) = Unit {0}
TellsEnd (called.Refused fault) = Unit {0}
TellsEnd _ = ⊥

tells_end : (T : Type 0) (end : End) → TellsEnd {T = T} (ended end)
tells_end T (ends.Answered answer) = tt
tells_end T (ends.Refused fault) = tt

module _ {K V Q : Type 0} (asks : Q → K → Bool) (same : K → K → Bool) (hash : K → ℕ) (p : KeyCall K V Q) (m m2 : Mem (Node K V)) (e : KeyCall K V Q × Called (Node K V)) where
  pub over_tells : (stands : Calling) → IsOver stands → Steps Took value_at m (plan_at asks same hash p stands) m2 e → TellsEnd e.1
  over_tells (at.Over end) over s = subst (λ (x : KeyCall K V Q × Called (Node K V)). TellsEnd x.1) (sym s.1) (tells_end (Node K V) end)
  over_tells at.Makes over s = absurd over
  over_tells (at.Looks lookup) over s = absurd over
  over_tells at.Roots over s = absurd over
  over_tells at.Probes over s = absurd over
  over_tells (at.Tries word new) over s = absurd over
  over_tells (at.Counts removed) over s = absurd over
  over_tells at.Nexts over s = absurd over
  over_tells (at.Firsts making) over s = absurd over
  over_tells (at.Allocs making) over s = absurd over
  over_tells (at.Helps copier goal) over s = absurd over
  over_tells (at.Copies copier) over s = absurd over
  over_tells (at.Asks asking) over s = absurd over
  over_tells (at.Disposes dispose answer) over s = absurd over
  over_tells (at.Drops end) over s = absurd over

module _ {K V Q S : Type 0} (same : K → K → Bool) (asks : Q → K → Bool) (hashes : S → K → ℕ) (b : Bor S) (setting : Setting) (lawful : AreLawful same (hashes b.now)) (initial : IsPowerOfTwo setting.initial)
    (m0 : Mem (Node K V)) (c0 : Chart K) (blocks0 : Blocks) (rule0 : Rule same (spot_of (hashes b.now)) (is_incremental setting.mode) c0) (keys : K → Bool) (kind : Kind) (pair : Option (Node K V)) where
  abbrev hash : K → ℕ
  hash = hashes b.now

  abbrev UnderIt : OnKey K V Q S → Mem (Node K V) → Type 0
  UnderIt = Under {Q = Q} same asks hashes b setting lawful initial m0 c0 blocks0 rule0 keys (Begun kind pair)

  abbrev StopsIt : OnKey K V Q S → Mem (Node K V) → Result Stop Fault → Type 0
  StopsIt = StopsAt {Q = Q} same asks hashes b setting lawful initial m0 c0 blocks0 rule0 keys (Begun kind pair)

  abbrev CourseOf : KeyCall K V Q → Mem (Node K V) → Type 0
  CourseOf = Course {Q = Q} {S = S} same asks hashes b setting lawful initial m0 c0 blocks0 rule0 keys (Begun kind pair)

  abbrev it : KeyCall K V Q → Option (Node K V) → OnKey K V Q S
  it p unstored = record { call = p; hasher = b; unstored = unstored }

  -- its pair came back, and it is over; or it has the pair
  abbrev HasStill : OnKey K V Q S → Type 0
  HasStill x = ((x.unstored ≡ pair) × IsOver x.call.stands) ⊎ HasPair x.call

  abbrev ComesSo : OnKey K V Q S → Result Stop Fault → Type 0
  ComesSo x result = IsReturned pair result x.unstored

  -- where a step leads, by what the machine tells
  abbrev HasNext : OnKey K V Q S → Mem (Node K V) → Advance Stop → Type 0
  HasNext = NextOf (λ x m. HasStill x) (λ x m result. ComesSo x result)

  -- it has the pair, and this is what it tells
  has_by : (p2 : KeyCall K V Q) (o : Option (Node K V)) (m2 : Mem (Node K V)) (told : Called (Node K V)) → KeepsPair (p2, told) → ((value : Node K V) → told ≡ called.Unstored value → pair ≡ Some value)
      → HasNext (on_key_settled (it p2 o) told).0 m2 (on_key_settled (it p2 o) told).1
  has_by p2 o m2 called.Goes keeps hands = inr keeps
  has_by p2 o m2 called.Waits keeps hands = inr keeps
  has_by p2 o m2 (called.Gave value) keeps hands = inr keeps
  has_by p2 o m2 (called.Unstored value) keeps hands = inl (sym (hands value refl), keeps)
  has_by p2 o m2 (called.Asks asked) keeps hands = absurd keeps
  has_by p2 o m2 (called.Done answer) keeps hands = inl keeps
  has_by p2 o m2 (called.Refused fault) keeps hands = absurd keeps

  -- its pair came back, and it tells how it has ended
  back_by : (p2 : KeyCall K V Q) (o : Option (Node K V)) (m2 : Mem (Node K V)) (told : Called (Node K V)) → TellsEnd told → o ≡ pair → HasNext (on_key_settled (it p2 o) told).0 m2 (on_key_settled (it p2 o) told).1
  back_by p2 o m2 called.Goes end back = absurd end
  back_by p2 o m2 called.Waits end back = absurd end
  back_by p2 o m2 (called.Gave value) end back = absurd end
  back_by p2 o m2 (called.Unstored value) end back = absurd end
  back_by p2 o m2 (called.Asks asked) end back = absurd end
  back_by p2 o m2 (called.Done answer) end back = inr back
  back_by p2 o m2 (called.Refused fault) end back = back

  has_step : (p : KeyCall K V Q) (o : Option (Node K V)) (m m2 : Mem (Node K V)) (course : CourseOf p m) (e : KeyCall K V Q × Called (Node K V)) → Steps Took value_at m (call_plan asks same hash p) m2 e
      → HasStill (it p o) → HasNext (on_key_settled (it e.0 o) e.1).0 m2 (on_key_settled (it e.0 o) e.1).1
  has_step p o m m2 course e s (inl (back, over)) = back_by e.0 o m2 e.1 (over_tells asks same hash p m m2 e p.stands over s) back
  has_step p o m m2 course e s (inr h) =
      has_by e.0 o m2 e.1 (pair_kept asks same hash p h m m2 e s)
      (leading {Q = Q} {S = S} same asks hashes b setting lawful initial m0 c0 blocks0 rule0 keys (Begun kind pair) p m course m2 e.0 e.1 s).hands

  abbrev the_plan : OnKey K V Q S → Plan (Node K V) (OnKey K V Q S × Advance Stop)
  the_plan = on_key_plan asks same hashes

  has_next : (x : OnKey K V Q S) (m : Mem (Node K V)) → UnderIt x m → HasStill x → (m2 : Mem (Node K V)) (end : OnKey K V Q S × Advance Stop) → Steps Took value_at m (the_plan x) m2 end → HasNext end.0 m2 end.1
  has_next x m u has m2 end s =
      let k = under_back {Q = Q} same asks hashes b setting lawful initial m0 c0 blocks0 rule0 keys (Begun kind pair) x m u m2 end s in
      subst (λ (y : OnKey K V Q S × Advance Stop). HasNext y.0 m2 y.1) (sym k.2) (has_step u.p u.unstored m m2 u.course k.0 k.1 (subst HasStill u.is has))

  pub comes_back : (x : OnKey K V Q S) (m : Mem (Node K V)) (x2 : OnKey K V Q S) (m2 : Mem (Node K V)) (result : Result Stop Fault) → RunsTo the_plan x m x2 m2 result → UnderIt x m → HasStill x
      → IsReturned pair result x2.unstored
  comes_back x m x2 m2 result runs u has =
      (run_comes (λ y n. UnderIt y n × HasStill y) (λ y n r. StopsIt y n r × ComesSo y r) the_plan
      (λ y n h n2 end s. next_both UnderIt (λ z k. HasStill z) StopsIt (λ z k r. ComesSo z r) end.0 n2 end.1
      (under_step {Q = Q} same asks hashes b setting lawful initial m0 c0 blocks0 rule0 keys (Begun kind pair) y n h.0 n2 end s) (has_next y n h.0 h.1 n2 end s)) x m (u, has) x2 m2 result runs).1
