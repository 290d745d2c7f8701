-- The operation of a step tells which change of the map it made.
use Rattle.std.specs.Prelude.{◌≡◌, ◌≢◌, ℕ, ◌<◌, ◌^◌, Bool, Some}
use Rattle.std.proofs.Common.{subst, inl, inr}
use Rattle.run_schedules.specs.Given.SeizeWordsDeclared.at.At.{At}
use Rattle.run_schedules.specs.Given.SeizeWordsMem.{Mem, word_at}
use Rattle.seize.specs.World.{World}
use Rattle.run_schedules.specs.Given.TablesDeclared.node.Node.{Node}
use Rattle.run_schedules.specs.Given.TablesDeclared.setting.Setting.{Setting}
use Rattle.map_rule.specs.Chart.{Chart}
use Rattle.map_rule.specs.Rule.{IsLawful}
use Rattle.map_rule.specs.Words.{Blocks}
use Rattle.map_rule.specs.Maps.{spot_of, IsMap}
use Rattle.map_rule.specs.InWorld.{IsMapIn, Moved}
use Rattle.run_effects.specs.Tells.Seen.{Seen, Wrote, Unseen, seen_of}
use Rattle.run_effects.specs.Tells.Tells.{IsObserved, HasStepped, OperationsTell, StillStepsTell}
use Rattle.run_effects.proofs.Tells.Changed.{IsUsersWord, changed_seen}
use Rattle.run_effects.proofs.Tells.Kept.{IsWritten, seen_kept}
use Rattle.run_effects.proofs.Tells.Names.{quiet_same}
use Rattle.run_effects.proofs.Tells.Places.{quiet_seen, seen_so}

module _ {K V : Type 0} (same : K → K → Bool) (hash : K → ℕ) (lawful : IsLawful same (spot_of hash)) (fits : (k : K) → hash k < 2 ^ 64) (setting : Setting) (caller : ℕ) (w : World (Node K V)) (c : Chart K) (blocks : Blocks)
    (m2 : Mem (Node K V)) (map : IsMapIn same hash setting w c blocks) (went : HasStepped V same hash setting caller w c blocks m2) (seen : Seen (Node K V))
    (changed : (x : At) (old new : ℕ) → IsUsersWord x → word_at w.memory x ≡ Some old → word_at m2 x ≡ Some new → old ≢ new → seen ≡ Wrote x old new)
    (written : (x : At) (old new : ℕ) → seen ≡ Wrote x old new → IsWritten w.memory m2 x old new) where
  map2 : IsMap same hash setting.mode setting.root m2 went.c2 went.blocks2
  map2 = subst (λ (n : Mem (Node K V)). IsMap same hash setting.mode setting.root n went.c2 went.blocks2) went.memory went.map.map

  told : IsObserved hash setting c blocks went.c2 went.blocks2 same caller went.moved seen
  told = by went.moved
    where
      by : (moved : Moved same hash setting.mode caller c went.c2) → IsObserved hash setting c blocks went.c2 went.blocks2 same caller moved seen
      by (inl still) =
          quiet_seen same hash lawful fits setting w.memory m2 c went.c2 blocks went.blocks2 map.map map2 went.blocks_same went.tables seen changed written (quiet_same c went.c2 still)
      by (inr made) =
          seen_so same hash lawful fits setting w.memory m2 c went.c2 blocks went.blocks2 map.map map2 went.blocks_same went.tables seen changed written made.0 made.1 made.2

module _ {K : Type 0} (V : Type 0) (same : K → K → Bool) (hash : K → ℕ) where
  pub operations_tell : OperationsTell V same hash
  operations_tell lawful fits setting caller w c blocks m2 map went op out can took =
      told same hash lawful fits setting caller w c blocks m2 map went (seen_of w.memory op out)
      (λ x old new users was is other. changed_seen w.memory m2 x users old new was is other op out can took)
      (λ x old new e. seen_kept w.memory m2 x old new op out can took e)

  pub still_steps_tell : StillStepsTell V same hash
  still_steps_tell lawful fits setting caller w c blocks m2 map went still =
      told same hash lawful fits setting caller w c blocks m2 map went Unseen
      (λ x old new users was is other. (let there : word_at w.memory x ≡ Some new = subst (λ (n : Mem (Node K V)). word_at n x ≡ Some new) still is in let one : old ≡ new = cc in absurd (other one)))
      (λ x old new e. absurd (cc))
