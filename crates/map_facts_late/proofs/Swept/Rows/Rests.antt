-- A sweep while a row of the collector disposes of the pair that it has removed, and after it.
use Rattle.std.specs.Prelude.{ℕ, Bool, false}
use Rattle.map_facts_late.specs.RowsSweeps.{SweepsContinue, SweepsRestOn}
use Rattle.map_facts_late.proofs.Known.Tables.{made_on}
use Rattle.map_facts_late.proofs.Lasts.Promised.{calls_know_on}
use Rattle.map_facts_late.proofs.Swept.Covers.On.{further_covers}
use Rattle.map_facts_late.proofs.Swept.Covers.Told.{within, next_is}
use Rattle.map_facts_late.proofs.Swept.Lasts.Sweeps.{place_then}
use Rattle.map_facts_late.proofs.Swept.Sweeps.On.{goes_further}

module _ {K : Type 0} (V : Type 0) (same : K → K → Bool) (hash : K → ℕ) where
  pub sweeps_go_on : SweepsContinue V same hash
  sweeps_go_on setting w caller c blocks began p map r = (
    goes_further same hash caller setting began w c blocks map p r.setting_is r.idle r.turn r.place.0 r.place.1,
    λ entered done h. further_covers hash c blocks p entered (within same hash setting w caller c blocks began p map r.turn r.place.0) p.met done
        (next_is same hash setting w caller c blocks began p map r.turn r.place.0 r.place.1) h,
  )

  pub sweeps_rest_on : SweepsRestOn V same hash
  sweeps_rest_on are setting caller w w2 c c2 blocks blocks2 map map2 moments others few began since p r = record {
    setting_is = r.setting_is;
    taking = r.taking;
    idle = (calls_know_on V same hash (λ (q : Unit {0}) (k : K). false) are setting caller w w2 c c2 blocks blocks2 map map2 moments others few).0 r.idle;
    turn = r.turn;
    place = place_then same hash are setting caller w w2 c c2 blocks blocks2 map map2 moments others (λ blocking t made l. few blocking t (made_on same hash setting caller w w2 c c2 blocks blocks2 others t made)) began since p
        r.turn r.place;
  }
