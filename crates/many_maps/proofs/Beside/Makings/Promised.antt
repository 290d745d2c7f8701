-- Makings begin, and whoever takes a step of one may take it, and all stand together again.
use Rattle.std.specs.Prelude.{◌≡◌, ◌≢◌, ℕ, Bool, Option, Some, None}
use Rattle.std.proofs.Common.{refl, sym, subst}
use Rattle.many_calls.specs.Given.SeizeWordsMem.{Mem, Can, Took, value_at}
use Rattle.many_calls.specs.Given.SeizeWordsPlan.{May, Steps}
use Rattle.many_calls.specs.Given.SeizeWorld.{World}
use Rattle.many_calls.specs.Given.SeizeDeclared.advance.Advance.{Advance}
use Rattle.many_calls.specs.Given.TablesDeclared.node.Node.{Node}
use Rattle.many_calls.specs.Given.TablesDeclared.setting.Setting.{Setting}
use Rattle.many_calls.specs.Given.ResizeNewMap.{new_map_plan, opening, plan_at}
use Rattle.many_calls.specs.Given.ResizeDeclared.new_map.NewMap.{NewMap}
use Rattle.many_calls.specs.Given.ResizeDeclared.new_map.Opening.{Opening}
use Rattle.many_calls.specs.Given.ResizeDeclared.new_map.Opening.TheVariants as at
use Rattle.many_maps.specs.Makings.{Beginning, HasTaken, HasMade, HasRoots, OpeningFacts, MakingFacts, MakingsTogether, NoMakingsBegin, MakingsBegin, MakingsStand}
use Rattle.many_maps.specs.Maps.{Standing}
use Rattle.many_calls.specs.Together.{UnderWay, CameAbout}
use Rattle.many_maps.proofs.Beside.Makings.Counters.{may_shards, went_shards, may_unmakes, went_unmakes}
use Rattle.many_maps.proofs.Beside.Makings.Roots.{may_takes, went_takes, may_frees, went_frees}
use Rattle.many_maps.proofs.Beside.Makings.Steps.{one_made, two_made, making_leads}
use Rattle.many_maps.proofs.Beside.Makings.Tables.{may_tables, went_tables}
use Rattle.many_maps.proofs.Beside.Makings.Went.{MakingWent}
use Rattle.many_calls.proofs.Given.General.{same_some as one_of}

module _ {K Q : Type 0} (V : Type 0) (same : K → K → Bool) (asks : Q → K → Bool) (batch_size roots : ℕ) (slot : ℕ → ℕ) where
  pub no_makings_begin : NoMakingsBegin {Q = Q} V same asks batch_size roots slot
  no_makings_begin w maps calls stand free used = record {
    standing = stand;
    free = free;
    used = used;
    facts = λ i b makes. absurd (cc makes);
    alone = λ i b makes. absurd (cc makes);
    coming = λ i b makes. absurd (cc makes);
    numbers = λ i j b d ne makes has e. cc makes;
    their_roots = λ i j b d ne makes has taken taken2 e. cc makes;
    roots_apart = λ i m b s makes here taken e. cc makes;
    counters_apart = λ i m b s makes here made e. cc makes;
  }

  abbrev begins : ℕ → Setting → (K → ℕ) → ℕ → Beginning K
  begins map given hash places = record { map = map; given = given; places = places; hash = hash; machine = opening given roots places }

  -- it has neither a root nor a counter yet
  pub makings_begin : MakingsBegin {Q = Q} V same asks batch_size roots slot
  makings_begin w maps calls makers all i free alone map none differs given hash places lawful initial batches mask some sized = record {
    standing = all.standing;
    free = all.free;
    used = all.used;
    facts = one_made makers i (Some (begins map given hash places)) (λ j d. MakingFacts w same batch_size roots j d)
        (λ d is. subst (λ (x : Beginning K). MakingFacts w same batch_size roots i x) (one_of (begins map given hash places) d is)
        (record { lawful = lawful; initial = initial; batches = batches; mask = mask; setting_is = refl; roots_are = refl; len_is = refl; len = sized; point = some }))
        (λ j d other has. all.facts j d has);
    alone = one_made makers i (Some (begins map given hash places)) (λ j d. (m : ℕ) → calls m j ≡ None) (λ d is. alone) (λ j d other has. all.alone j d has);
    coming = one_made makers i (Some (begins map given hash places)) (λ j d. maps d.map ≡ None) (λ d is. subst (λ (x : Beginning K). maps x.map ≡ None) (one_of (begins map given hash places) d is) none) (λ j d other has. all.coming j d has);
    numbers = two_made makers i (Some (begins map given hash places)) (λ d e. d.map ≢ e.map)
        (λ d is j e other has. subst (λ (x : Beginning K). (x.map ≢ e.map) × (e.map ≢ x.map)) (one_of (begins map given hash places) d is) (differs j e has, λ x. differs j e has (sym x))) all.numbers;
    their_roots = two_made makers i (Some (begins map given hash places)) (λ d e. HasTaken d.machine.stands → HasTaken e.machine.stands → d.machine.setting.root ≢ e.machine.setting.root)
        (λ d is j e other has. (λ taken. absurd (not_taken d is taken), λ taken2 taken. absurd (not_taken d is taken))) all.their_roots;
    roots_apart = λ j m d s has here. one_made makers i (Some (begins map given hash places)) (λ j d. HasTaken d.machine.stands → d.machine.setting.root ≢ s.setting.root)
        (λ d is taken. absurd (not_taken d is taken)) (λ j d other has. all.roots_apart j m d s has here) j d has;
    counters_apart = λ j m d s has here. one_made makers i (Some (begins map given hash places)) (λ j d. HasMade d.machine.stands → d.machine.setting.counter ≢ s.setting.counter)
        (λ d is made. absurd (not_made d is made)) (λ j d other has. all.counters_apart j m d s has here) j d has;
  }
    where
      not_taken : (d : Beginning K) → ◌≡◌ {A = Option (Beginning K)} (Some (begins map given hash places)) (Some d) → HasTaken d.machine.stands → ⊥
      not_taken d is taken = subst (λ (x : Beginning K). HasTaken x.machine.stands) (sym (one_of (begins map given hash places) d is)) taken

      not_made : (d : Beginning K) → ◌≡◌ {A = Option (Beginning K)} (Some (begins map given hash places)) (Some d) → HasMade d.machine.stands → ⊥
      not_made d is made = subst (λ (x : Beginning K). HasMade x.machine.stands) (sym (one_of (begins map given hash places) d is)) made

  module _ (w : World (Node K V)) (came : CameAbout batch_size w) (i : ℕ) (b : Beginning K) (f : MakingFacts w same batch_size roots i b) (free : HasRoots w roots) where
    may_at : (stage : Opening) → b.machine.stands ≡ stage → OpeningFacts w roots i b.machine stage → May Can Took value_at w.memory (plan_at {K = K} {V = V} b.machine stage)
    may_at at.Takes here point = may_takes V same asks batch_size roots slot w i b f free here point
    may_at at.Shards here point = may_shards V same asks batch_size roots slot w came i b f free here point
    may_at (at.Tables making) here point = may_tables V same asks batch_size roots slot w came i b f free making here point
    may_at (at.Unmakes fault) here point = may_unmakes V same asks batch_size roots slot w came i b f free fault here point
    may_at (at.Frees fault) here point = may_frees V same asks batch_size roots slot w i b f free fault here point
    may_at at.Over here point = absurd point
    may_at (at.Refused fault) here point = absurd point

    went_at : (stage : Opening) → b.machine.stands ≡ stage → OpeningFacts w roots i b.machine stage → (m2 : Mem (Node K V)) (end : NewMap × Advance Setting)
        → Steps Took value_at w.memory (plan_at b.machine stage) m2 end → MakingWent V same asks batch_size roots slot w i b m2 end
    went_at at.Takes here point m2 end s = went_takes V same asks batch_size roots slot w i b f free here point m2 end s
    went_at at.Shards here point m2 end s = went_shards V same asks batch_size roots slot w came i b f free here point m2 end s
    went_at (at.Tables making) here point m2 end s = went_tables V same asks batch_size roots slot w came i b f free making here point m2 end s
    went_at (at.Unmakes fault) here point m2 end s = went_unmakes V same asks batch_size roots slot w came i b f free fault here point m2 end s
    went_at (at.Frees fault) here point m2 end s = went_frees V same asks batch_size roots slot w i b f free fault here point m2 end s
    went_at at.Over here point m2 end s = absurd point
    went_at (at.Refused fault) here point m2 end s = absurd point

  -- whoever takes a step of a making, before it is put together with all else
  pub makings_went : (w : World (Node K V)) (maps : ℕ → Option (Standing K)) (calls : ℕ → ℕ → Option (UnderWay K V Q)) (makers : ℕ → Option (Beginning K)) → MakingsTogether V same asks batch_size roots slot w maps calls makers
      → (i : ℕ) (b : Beginning K) → makers i ≡ Some b → May Can Took value_at w.memory (new_map_plan {K = K} {V = V} b.machine)
      × ((m2 : Mem (Node K V)) (end : NewMap × Advance Setting) → Steps Took value_at w.memory (new_map_plan b.machine) m2 end → MakingWent V same asks batch_size roots slot w i b m2 end)
  makings_went w maps calls makers all i b makes =
      let f = all.facts i b makes in
      (may_at w all.standing.came i b f all.free b.machine.stands refl f.point, λ m2 end s. went_at w all.standing.came i b f all.free b.machine.stands refl f.point m2 end s)

  pub makings_stand : MakingsStand {Q = Q} V same asks batch_size roots slot
  makings_stand w maps calls makers all i b makes =
      let m = makings_went w maps calls makers all i b makes in (m.0, λ m2 end s. making_leads V same asks batch_size roots slot w maps calls makers all i b makes m2 end (m.1 m2 end s))
