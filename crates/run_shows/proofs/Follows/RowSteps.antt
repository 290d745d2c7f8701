-- A step of a row within a call: the moment after its effects shows the scene after it, where it takes no block away and hands over what has left its map.
use Rattle.std.specs.Prelude.{◌&&◌, ◌≡◌, ℕ, nat_lt, Bool, true, false, List, [], ◌∷◌, Option, Some, None, length, ◌⊎◌, if◌then◌else◌}
use Rattle.std.proofs.Common.{refl, ap, sym, subst, ◌∙◌, inl, inr}
use Rattle.seize_words.specs.OneMemory.Mem.{Mem, value_at}
use Rattle.seize.specs.World.{World}
use Rattle.run_effects.specs.Given.TablesDeclared.node.Node.{Node}
use Rattle.run_effects.specs.Given.RawDeclared.machines.progress.Progress.{Progress}
use Rattle.run_effects.specs.Given.RunsDeclared.effect.Effect.{Effect}
use Rattle.run_effects.specs.Given.RunsDeclared.effect.Effect.TheVariants.{Asked}
use Rattle.run_effects.specs.Given.RunsDeclared.effect.Growth.TheVariants.{ABlock, ABucket}
use Rattle.run_effects.specs.Given.SchedulesEffects.{with_effects}
use Rattle.run_effects.specs.Given.SchedulesMoment.{Moment}
use Rattle.run_effects.specs.declared.changed.Changed.{Changed}
use Rattle.run_effects.specs.declared.changed.Changed.TheVariants as changed
use Rattle.many_maps.specs.Given.CallersTogether.{UnderWay, OnKey, ForRoom, Counting, OverAll, IsOneStep, Together}
use Rattle.many_maps.specs.Maps.{Standing, IsSameMap}
use Rattle.run_effects.specs.Effects.Effects.{effects_of, known_after}
use Rattle.run_effects.specs.Effects.Known.{Known}
use Rattle.run_effects.specs.declared.acting.Acting.{Acting}
use Rattle.run_effects.specs.declared.acting.Acting.TheVariants.{Call}
use Rattle.run_effects.specs.declared.role.Role.{Role}
use Rattle.run_effects.specs.declared.role.Role.TheVariants as role
use Rattle.run_shows.specs.Follows.Blocks.{HasRole, RefinesBlocks}
use Rattle.run_shows.specs.Follows.Calls.{RefinesCalls}
use Rattle.run_shows.specs.Follows.Maps.{RefinesMap}
use Rattle.run_shows.specs.Follows.Shows.{Refines}
use Rattle.run_shows.specs.Follows.Steps.{HandTheirs, TakesNone}
use Rattle.run_shows.proofs.Follows.Alike.{alike_same}
use Rattle.run_shows.proofs.Follows.Going.{ShowsOn}
use Rattle.run_shows.proofs.Follows.Handed.{hands_shown, hands_same, hands_alike}
use Rattle.run_shows.proofs.Follows.Onward.{tables_same, pairs_same, blocks_same, blocks_part, map_on}
use Rattle.run_shows.proofs.Follows.Operations.{StaysThere, LeavesBy, Operated, operated_leaves}
use Rattle.run_shows.proofs.Follows.Rows.{HandsOn, IsStill, KeepsBlock, RowLeaves, one_step_leaves, row_written}
use Rattle.run_shows.proofs.Follows.Steps.{same_stood, same_gone, WentTo, went_to, made_so, calls_then, LeadsThere, DidSo, OfNoRow}
use Rattle.run_shows.proofs.Follows.Told.{roomed_as_many}
use Rattle.run_shows.specs.Scenes.Held.{Held, IsAt}
use Rattle.run_shows.specs.Scenes.Scene.{Scene, slot_of}
use Rattle.run_shows.specs.Scenes.Stepping.{StepLeads, scene_after}
use Rattle.seize_words.proofs.General.{same_some as one_of}

module _ {K V : Type 0} (caller map : ℕ) (m : Moment K V) (known : Known) (w w2 : World (Node K V)) (shown : RefinesBlocks m known w) (leaves : RowLeaves w w2) where
  abbrev its : Acting
  its = Call caller map

  -- each block has its role still
  row_role : (b : ℕ) → StaysThere w.memory w2.memory b → (r : Role) → HasRole w m.stored b r → HasRole w2 m.stored b r
  row_role b stays = of
    where
      keeps : (value : Node K V) → value_at w.memory b ≡ Some value → KeepsBlock w w2 b value
      keeps value is = by (leaves.blocks b value is)
        where
          by : (value_at w2.memory b ≡ None) ⊎ KeepsBlock w w2 b value → KeepsBlock w w2 b value
          by (inl gone) = absurd (let there = (stays.there value is).1 in cc (gone, there))
          by (inr kept) = kept

      of : (r : Role) → HasRole w m.stored b r → HasRole w2 m.stored b r
      of role.Free has = stays.gone has
      of (role.OwnPair i) has = (has.0, (keeps has.0 has.1).is, has.2)
      of (role.OwnTable turn shape) has = (has.0, (keeps _ has.1).is)
      of (role.Pair n) has = (has.0, has.1, has.2, (keeps _ has.3).is, (keeps _ has.3).linked has.4)
      of (role.Table t len) has = (has.0, (keeps _ has.1).is, (keeps _ has.1).linked has.2)
      of (role.Counter number) has = (keeps _ has).is

  pub record RowDone (told : Changed) : Type 0 where
    pub hands : HandsOn (effects_of its known told)
    pub roles : (known_after its told known).roles ≡ known.roles
    pub as_many : (known_after its told known).stored ≡ known.stored
    pub has : (b : ℕ) → HasRole w2 m.stored b (known.roles b)

  all_have : ((b : ℕ) → StaysThere w.memory w2.memory b) → (b : ℕ) → HasRole w2 m.stored b (known.roles b)
  all_have stays b = row_role b (stays b) (known.roles b) (shown.roles b)

  roomed_hands : (q : Bool) → HandsOn (if q then [] else Asked ABucket ∷ [])
  roomed_hands true = IsStill [] tt
  roomed_hands false = IsStill (Asked ABucket ∷ []) (refl, tt)

  pub row_done : (told : Changed) → LeavesBy w.memory w2.memory told → TakesNone told → RowDone told
  row_done changed.Nothing left none = record { hands = IsStill [] tt; roles = refl; as_many = refl; has = all_have left }
  row_done (changed.Wrote at old new) left none =
      let done = row_written caller map m.stored known w w2 shown.roles leaves left.2 at old new left.0 left.1 in
      record {
        hands = done.0;
        roles = ap (λ (k : Known). k.roles) done.1;
        as_many = ap (λ (k : Known). k.stored) done.1;
        has = all_have (λ b. record { gone = λ gone. left.2 b ∙ gone; there = λ value is. (value, left.2 b ∙ is) });
      }
  row_done (changed.Made k b) left none = absurd (let gone = leaves.none b left.0 in let there = left.3 in cc (gone, there))
  row_done (changed.Unmade k) left none = record { hands = IsStill (Asked ABlock ∷ []) (refl, tt); roles = refl; as_many = refl; has = all_have left }
  row_done (changed.Took b) left none = absurd none
  row_done (changed.Roomed bucket had) left none =
      let same = roomed_as_many its known bucket had in record { hands = roomed_hands (had && nat_lt bucket known.buckets); roles = same.0; as_many = same.1; has = all_have left }

module _ {K V : Type 0} (same : K → K → Bool) (hash : ℕ → K → ℕ) (m : Moment K V) (known : Known) (s : Scene K V) (old new : Held K V) (at : IsAt same hash old s)
    (name : ℕ → List ℕ) (shown : Refines same name m known s)
    (map i : ℕ) (standing : Standing K) (there : s.maps map ≡ Some standing) (caller : List ℕ)
    (made : Operated s.world.memory new.memory new.changed) (none : TakesNone new.changed)
    (hands : HandTheirs caller map (effects_of (Call i map) known new.changed) m)
    (w2 : World (Node K V)) (memory : w2.memory ≡ new.memory) (happened : IsOneStep standing.setting i s.world w2) where
  abbrev told : Changed
  told = new.changed

  abbrev w : World (Node K V)
  w = s.world

  abbrev effects : List Effect
  effects = effects_of (Call i map) known told

  abbrev after : Known
  after = known_after (Call i map) told known

  abbrev v : Moment K V
  v = with_effects (Some caller) (Some map) effects m

  each : Together V same standing.hash same standing.setting slot_of w standing.chart standing.blocks standing.sights (s.calls map)
  each = at.together.makings.standing.each map standing there

  left : LeavesBy w.memory w2.memory told
  left = subst (λ (n : Mem (Node K V)). LeavesBy w.memory n told) (sym memory) (operated_leaves w.memory new.memory told made)

  done : RowDone i map m known w w2 shown.blocks (one_step_leaves standing.setting i w w2 each.ground.came happened) told
  done = row_done i map m known w w2 shown.blocks (one_step_leaves standing.setting i w w2 each.ground.came happened) told left none

  same_stored : v.stored ≡ m.stored
  same_stored = hands_same caller map m effects done.hands

  module _ (w3 : World (Node K V)) (maps2 : ℕ → Option (Standing K)) (w_is : w3 ≡ w2) (maps_same : (n : ℕ) → IsSameMap (s.maps n) (maps2 n)) where
    map_then : (n : ℕ) (o : Option (Standing K)) → s.maps n ≡ o → IsSameMap o (maps2 n) → (st : Standing K) → maps2 n ≡ Some st → RefinesMap n (shown.number n) st v after
    map_then n None e gone st is = absurd (cc (gone, is))
    map_then n (Some before) e (blocks, sights, here, part) st is =
        let now = record before { blocks = blocks; sights = sights } in
        let with_known = hands_shown caller map n (shown.number n) before blocks sights m known (blocks_part before.chart before.blocks blocks part) (shown.maps n before e) effects done.hands hands in
        subst (λ (x : Standing K). RefinesMap n (shown.number n) x v after) (one_of now st (sym here ∙ is))
        (map_on n (shown.number n) now now v v known after (blocks_same before.chart blocks) (λ b lasting. ap (λ (f : ℕ → Role). f b) done.roles) refl (tables_same before.chart) (pairs_same before.chart)
        (alike_same n v v (record { place = refl; born = refl; maps = refl; tables = refl; stored = refl })) with_known)

    module _ (rest : Scene K V) (calls : RefinesCalls same name v rest.calls) where
      pub row_shown : ShowsOn same name m known s shown v after (record rest { world = w3; maps = maps2 })
      row_shown = record {
        shows = record {
          blocks = subst (λ (x : World (Node K V)). RefinesBlocks v after x) (sym w_is) (record {
            roles = λ b. subst (λ (xs : List (K × V)). HasRole w2 xs b (after.roles b)) (sym same_stored) (subst (λ (f : ℕ → Role). HasRole w2 m.stored b (f b)) (sym done.roles) (done.has b));
            once = λ b d n is is2. shown.blocks.once b d n (ap (λ (f : ℕ → Role). f b) (sym done.roles) ∙ is) (ap (λ (f : ℕ → Role). f d) (sym done.roles) ∙ is2);
            stored = done.as_many ∙ shown.blocks.stored ∙ sym (ap length same_stored);
          });
          number = shown.number;
          maps = λ n st is. map_then n (s.maps n) refl (maps_same n) st is;
          calls = calls;
        };
        numbers = λ n st is o l. refl;
        keeps = λ b lasting. ap (λ (f : ℕ → Role). f b) done.roles;
        back = λ b of. inl (ap (λ (f : ℕ → Role). f b) (sym done.roles));
        stood = λ n st is. same_stood (s.maps n) (maps2 n) st is (maps_same n);
        none = λ n gone. (let alike = hands_alike caller map m n effects done.hands hands in (same_gone (s.maps n) (maps2 n) gone (maps_same n), alike.0, alike.1));
      }

-- so it is for whichever kind of call
module _ {K V : Type 0} (same : K → K → Bool) (hash : ℕ → K → ℕ) (name : ℕ → List ℕ) (m : Moment K V) (known : Known) (s : Scene K V) (old new : Held K V) (at : IsAt same hash old s)
    (shown : Refines same name m known s) (map i : ℕ) (u : UnderWay K V K) (here : s.calls map i ≡ Some u) (told : Progress (Node K V)) (leads : StepLeads same hash i told s old new) where
  abbrev to : WentTo same hash name m known s old new at shown map i u here told leads
  to = went_to same hash name m known s old new at shown map i u here told leads

  abbrev Led : Type 0
  Led = LeadsThere same hash name m known s old new at shown map i u here told leads

  abbrev NoRow : (x : UnderWay K V K) → DidSo same hash name m known s old new at shown map i u here told leads x → Type 0
  NoRow = OfNoRow same hash name m known s old new at shown map i u here told leads

  pub row_step_shown : (NoRow u to.4.did → ⊥) → TakesNone new.changed → HandTheirs (name i) map (effects_of (Call i map) known new.changed) m → Led
  row_step_shown other none hands = by u to.4.did other
    where
      by : (x : UnderWay K V K) → (did : DidSo same hash name m known s old new at shown map i u here told leads x) → (NoRow x did → ⊥) → Led
      by (OnKey x) (p2, end, machine_is, told_is, inl step) other = absurd (other tt)
      by (OnKey x) (p2, end, machine_is, told_is, inr (row, stayed)) other =
          row_shown same hash m known s old new at name shown map i to.0 to.2 (name i) (made_so same hash name m known s old new at shown map i u here told leads) none hands row.step.w2 row.step.memory row.step.happened
          to.4.w2 to.4.maps2 stayed.0 stayed.1 (scene_after same s old new map i to.0 u to.1 told to.4) (calls_then same hash name m known s old new at shown map i u here told leads)
      by (ForRoom x) (p2, end, machine_is, told_is, inl step) other = absurd (other tt)
      by (ForRoom x) (p2, end, machine_is, told_is, inr (row, stayed)) other =
          row_shown same hash m known s old new at name shown map i to.0 to.2 (name i) (made_so same hash name m known s old new at shown map i u here told leads) none hands row.step.w2 row.step.memory row.step.happened
          to.4.w2 to.4.maps2 stayed.0 stayed.1 (scene_after same s old new map i to.0 u to.1 told to.4) (calls_then same hash name m known s old new at shown map i u here told leads)
      by (Counting x) did other = absurd (other tt)
      by (OverAll x) (p2, end, machine_is, told_is, inl step) other = absurd (other tt)
      by (OverAll x) (p2, end, machine_is, told_is, inr (row, stayed)) other =
          row_shown same hash m known s old new at name shown map i to.0 to.2 (name i) (made_so same hash name m known s old new at shown map i u here told leads) none hands row.step.w2 row.step.memory row.step.happened
          to.4.w2 to.4.maps2 stayed.0 stayed.1 (scene_after same s old new map i to.0 u to.1 told to.4) (calls_then same hash name m known s old new at shown map i u here told leads)
