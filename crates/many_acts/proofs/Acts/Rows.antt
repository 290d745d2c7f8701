-- A row that begins on a slot between calls, or takes a step: all stand together then.
use Rattle.std.specs.Prelude.{ℕ, Bool}
use Rattle.std.proofs.Common.{refl}
use Rattle.run_shows.specs.Given.SeizeWorld.{Request, Begin, Step, Happens}
use Rattle.seize_acts.specs.Acts.Acts.{row_steps, begun as row_begun}
use Rattle.seize_acts.specs.Acts.Answers.{Grant}
use Rattle.seize_acts.proofs.Acts.Begun.{rests_is, begun_is}
use Rattle.seize_acts.proofs.Acts.Fine.{row_stepped}
use Rattle.run_shows.specs.Given.TablesNodes.{deferred_word}
use Rattle.owner_facts.specs.Given.FinishesEndings.{AllEndingsStand}
use Rattle.owner_facts.proofs.Given.FinishesAmong.Rows.{guards_stand_among}
use Rattle.many_acts.specs.Acts.Acts.{Nothing, BeginsRow, StepsRow}
use Rattle.many_acts.specs.Acts.Leads.{MayBe, AllStand, Led}
use Rattle.many_acts.proofs.Acts.Tests.{some_is}
use Rattle.run_shows.proofs.Scenes.NoCall.{none_is}
use Rattle.run_shows.specs.Scenes.Scene.{Scene}

module _ {K V S : Type 0} (same : K → K → Bool) (hash : S → K → ℕ) (batch_size roots : ℕ) (slot : ℕ → ℕ) (s : Scene K V) (all : AllStand same hash batch_size roots slot s) (i : ℕ) where
  abbrev Stands : Scene K V → Type 0
  Stands n = AllStand same hash batch_size roots slot n

  pub row_begins : (request : Request) → MayBe same hash batch_size roots slot (BeginsRow i request) s
      → (n : Scene K V) × Led same hash batch_size roots slot (BeginsRow i request) s Nothing n × Stands n
  row_begins request (no_call, rest, of_slots, closes, there) =
      let found = some_is (row_begun deferred_word batch_size i request s.world) there in
      let happens : Happens deferred_word batch_size (Begin i request) s.world found.0 =
      (rests_is (s.world.row i) rest, begun_is deferred_word batch_size i request s.world found.0 found.1) in
      let stand : AllEndingsStand V same same batch_size roots slot found.0 s.maps s.calls s.makers s.enders =
      (guards_stand_among {Q = K} V same same batch_size roots slot s.world s.maps s.calls s.makers s.enders all i (λ m. none_is (s.calls m i) (no_call m))).0 request of_slots closes
      found.0 happens in
      (record s { world = found.0; maps = stand.0 }, (found.0, happens, stand.0, stand.1, refl, refl), stand.2)

  pub row_goes_on : (g : Grant) → MayBe same hash batch_size roots slot (StepsRow i g) s
      → (n : Scene K V) × Led same hash batch_size roots slot (StepsRow i g) s Nothing n × Stands n
  row_goes_on g (no_call, there) =
      let found = some_is (row_steps deferred_word i (s.world.row i) g s.world) there in
      let happens : Happens deferred_word batch_size (Step i) s.world found.0 = row_stepped deferred_word batch_size i (s.world.row i) g s.world found.0 found.1 in
      let stand : AllEndingsStand V same same batch_size roots slot found.0 s.maps s.calls s.makers s.enders =
      (guards_stand_among {Q = K} V same same batch_size roots slot s.world s.maps s.calls s.makers s.enders all i (λ m. none_is (s.calls m i) (no_call m))).2 found.0 happens in
      (record s { world = found.0; maps = stand.0 }, (found.0, found.1, happens, stand.0, stand.1, refl, refl), stand.2)
