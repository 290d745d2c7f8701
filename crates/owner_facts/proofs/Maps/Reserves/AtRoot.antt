-- Each own step of a reservation that is alone, in incremental mode: it keeps to the root, and at its end that has the places.
use Rattle.std.proofs.Common.{◌≡◌, ℕ, ◌/◌, ◌<◌, ◌≤◌, Bool, true, cond, refl, arith, ap, sym, subst, ◌∙◌}
use Rattle.many_maps.specs.Given.SeizeWordsDeclared.at.At.TheVariants.{Word}
use Rattle.many_maps.specs.Given.SeizeWordsMem.{value_at, Took}
use Rattle.many_maps.specs.Given.SeizeWordsPlan.{Steps}
use Rattle.many_maps.proofs.Given.SeizeWordsOneOwner.Operations.{stored, loaded}
use Rattle.many_maps.proofs.Given.SeizeRuleRows.Leaving.{steps_back}
use Rattle.many_maps.specs.Given.SeizeWorld.{World}
use Rattle.many_maps.specs.Given.TablesChunks.{is_incremental}
use Rattle.many_maps.specs.Given.TablesTablePlaces.{at_word}
use Rattle.many_maps.specs.Given.TablesDeclared.node.Node.{Node}
use Rattle.many_maps.specs.Given.TablesDeclared.setting.Setting.{Setting}
use Rattle.many_maps.specs.Given.TablesDeclared.status.TheConstants.Status.{PROMOTED}
use Rattle.many_maps.specs.Given.TablesDeclared.table.Table.{Table}
use Rattle.many_maps.specs.Given.TablesDeclared.table_words.TheConstants.{NEXT, STATUS}
use Rattle.many_maps.specs.Given.ResizeCopier.{copier_plan, plan_at as copier_at}
use Rattle.many_maps.specs.Given.ResizeCopierPromotes.{to, successor_read, also_retired, retiring_table}
use Rattle.many_maps.specs.Given.ResizeCopierStates.{standing}
use Rattle.many_maps.specs.Given.ResizeDeclared.copier.Copier.{Copier}
use Rattle.many_maps.specs.Given.ResizeDeclared.copier.Copying.{Copying}
use Rattle.many_maps.specs.Given.ResizeDeclared.copier.Copying.TheVariants as copies
use Rattle.many_maps.specs.Given.ResizeDeclared.yielding.Yielding.{Yielding}
use Rattle.many_maps.specs.Given.ResizeDeclared.yielding.Yielding.TheVariants as outcome
use Rattle.many_maps.specs.Given.ReservesReserve.{copied, needed, plan_at, reserve_plan}
use Rattle.many_maps.specs.Given.ReservesDeclared.reserve.Reserve.{Reserve}
use Rattle.many_maps.specs.Given.ReservesDeclared.reserve.Reserving.{Reserving}
use Rattle.many_maps.specs.Given.ReservesDeclared.reserve.Reserving.TheVariants as at
use Rattle.many_maps.specs.Given.RuleChart.{Chart}
use Rattle.many_maps.specs.Given.RuleLasts.{Lasts}
use Rattle.many_maps.specs.Given.RuleWords.{Blocks}
use Rattle.many_maps.specs.Given.RuleMaps.{spot_of}
use Rattle.many_maps.specs.Given.RuleInWorld.{Moved, SameBlocks, IsMapIn}
use Rattle.many_maps.specs.Given.PointsTold.{IsRowOfCopier}
use Rattle.many_maps.specs.Given.LateFactsReserves.{CopiesWhole, ReservingFacts, ReserveFacts}
use Rattle.many_maps.specs.Given.LateToldReserves.{ReserveAfter, IsRowOfReserve}
use Rattle.owner_facts.specs.Maps.AloneReserves.{RetiresFrom, IsNear, ReservingAlone, LooksAtRoot, SumsUp, KeepsToRoot}
use Rattle.owner_facts.proofs.Maps.Reserves.Knows.{knows_tables, copier_setting}
use Rattle.owner_facts.proofs.Maps.Reserves.Left.{CopiesTo, all_retired, first_kept}
use Rattle.owner_facts.proofs.Maps.Reserves.LeftOn.{KnowsTables, copies_on_at}
use Rattle.owner_facts.proofs.Maps.Reserves.PlansLeave.{plan_roots}
use Rattle.owner_facts.proofs.Maps.Reserves.Room.{CountsRoot, SumsTo, sums_on}
use Rattle.owner_facts.proofs.Maps.Reserves.Told.{ReservesOnTo, copied_ends, reserves_on}

module _ {K V : Type 0} (same : K → K → Bool) (hash : K → ℕ) (setting : Setting) (incremental : is_incremental setting.mode ≡ true) (w w2 : World (Node K V)) (c c2 : Chart K) (blocks blocks2 : Blocks)
    (map : IsMapIn same hash setting w c blocks) (map2 : IsMapIn same hash setting w2 c2 blocks2) (lasts : Lasts same (spot_of hash) (is_incremental setting.mode) c c2)
    (since : SameBlocks c blocks blocks2) (moved : Moved same hash setting.mode 0 c c2) (p : Reserve) (f : ReserveFacts same hash w 0 setting c blocks p) (none : IsRowOfReserve p.stands → ⊥)
    (end : Reserve × Yielding (Node K V) Unit) (told : ReserveAfter w2 0 setting c2 blocks2 same hash end) (steps : Steps Took value_at w.memory (reserve_plan hash p) w2.memory end) where
  -- where a step leads; where it has ended, the root is the same
  abbrev RootTo : Reserve × Yielding (Node K V) Unit → Type 0
  RootTo (q, outcome.Goes) = LooksAtRoot c2 q.stands
  RootTo (q, outcome.Waits) = LooksAtRoot c2 q.stands
  RootTo (q, outcome.Gave value) = Unit {0}
  RootTo (q, outcome.Done over) = c.first ≡ c2.first
  RootTo (q, outcome.Refused fault) = Unit {0}

  -- beside its copying, all of what is known of one that is alone
  known_root : c.first < c.past → blocks.table_known c.first ≡ true
  known_root made = map.map.shows.linked c.first (omega arith) made

  near_of : (copier : Copier) → IsNear setting c2 copier → c2.first ≤ copier.target.turn
  near_of copier near = subst (λ (b : Bool). cond b (c2.first ≤ copier.target.turn) (Unit {0})) incremental near

  looks_of : (additional : ℕ) (stands : Reserving) → ReservingAlone setting c2 blocks2 additional stands c.first → LooksAtRoot c2 stands
  looks_of additional at.Reads alone = tt
  looks_of additional (at.Makes making) alone = alone.0
  looks_of additional (at.Sums table sum) alone = alone.0
  looks_of additional (at.Follows table need) alone = alone.0
  looks_of additional (at.Grows table making) alone = alone.0
  looks_of additional (at.Copies copier) alone = near_of copier alone.1
  looks_of additional at.Over alone = alone
  looks_of additional (at.Refused fault) alone = tt

  abbrev OnTo : Reserve × Yielding (Node K V) Unit → Type 0
  OnTo = ReservesOnTo same hash 0 setting w w2 c c2 blocks blocks2 map map2 lasts since moved p f.setting_is c.first

  to_root : (e : Reserve × Yielding (Node K V) Unit) → OnTo e → RootTo e
  to_root (q, outcome.Goes) on = looks_of q.additional q.stands on
  to_root (q, outcome.Waits) on = looks_of q.additional q.stands on
  to_root (q, outcome.Gave value) on = tt
  to_root (q, outcome.Done over) on = on
  to_root (q, outcome.Refused fault) on = tt

  beside : (stage : Reserving) → (IsRowOfReserve stage → ⊥) → ReservingFacts same hash w 0 setting c blocks stage → ReservingAlone setting c blocks p.additional stage c.first
      → Steps Took value_at w.memory (plan_at hash p stage) w2.memory end → RootTo end
  beside stage quiet facts alone s =
      to_root end
      (reserves_on same hash 0 setting w w2 c c2 blocks blocks2 map map2 lasts since moved p f.setting_is c.first w2.memory refl end told known_root stage quiet facts alone s)

  -- a step of its copying
  module _ (copier : Copier) (near : c.first ≤ copier.target.turn) (whole : CopiesWhole same hash w 0 setting c blocks copier) (b : Copier × Yielding (Node K V) Table) where
    its : copier.setting ≡ setting
    its = copier_setting same hash w 0 setting c blocks copier whole

    near_here : IsNear setting c copier
    near_here = subst (λ (x : Bool). cond x (c.first ≤ copier.target.turn) (Unit {0})) (sym incremental) near

    from_copies : (e : Copier × Yielding (Node K V) Table) → CopiesTo setting c2 blocks2 c.first e → RootTo (copied p e)
    from_copies (q, outcome.Goes) on = near_of q on.1
    from_copies (q, outcome.Waits) on = near_of q on.1
    from_copies (q, outcome.Gave value) on = tt
    from_copies (q, outcome.Done root) on = on.0
    from_copies (q, outcome.Refused fault) on = tt

    -- the root is the same, and so is the target
    kept : (q : Copier) → q.target ≡ copier.target → w2.memory.roots ≡ w.memory.roots → b ≡ (q, outcome.Goes) → RootTo (copied p b)
    kept q target roots is =
        subst (λ (e : Copier × Yielding (Node K V) Table). RootTo (copied p e)) (sym is)
        (let first = first_kept same hash setting w w2 c c2 blocks blocks2 map map2 lasts since copier its c.first b roots in
        let turn = ap (λ (x : Table). x.turn) target in omega (arith, near, first, turn))

    copies_at : ReserveAfter w2 0 setting c2 blocks2 same hash (copied p b) → (stands : Copying) → copier.stands ≡ stands → (IsRowOfCopier stands → ⊥) → KnowsTables setting c blocks copier stands
        → Steps Took value_at w.memory (copier_at hash copier stands) w2.memory b → RootTo (copied p b)
    copies_at after copies.Announces here quiet k s =
        let d = stored w.memory (λ out. to (standing copier (copies.Succeeds copier.source.link))) (at_word copier.target STATUS) PROMOTED w2.memory b s in
        kept (standing copier (copies.Succeeds copier.source.link)) refl (plan_roots w.memory w2.memory b (copier_at hash copier copies.Announces) tt s) d.1
    copies_at after (copies.Succeeds table) here quiet k s =
        let d = loaded w.memory (successor_read copier table) (Word (table / 2048) NEXT) w2.memory b s in
        kept (retiring_table copier table (also_retired copier d.0)) refl (plan_roots w.memory w2.memory b (copier_at hash copier (copies.Succeeds table)) tt s) d.3
    copies_at after (copies.Retires settle rest) here quiet k s = absurd (quiet tt)
    copies_at after stands here quiet k s =
        from_copies b
        (copies_on_at same hash setting w w2 c c2 blocks blocks2 map map2 lasts since copier its c.first b known_root
        (subst (λ (x : Copying). RetiresFrom setting c blocks copier x c.first) (sym here) (all_retired setting c blocks c.first copier stands tt refl)) near_here
        (copied_ends same hash 0 setting w w2 c c2 blocks blocks2 map map2 lasts since moved p f.setting_is c.first b after) stands here quiet k s)

  root_at : (stage : Reserving) → (IsRowOfReserve stage → ⊥) → ReservingFacts same hash w 0 setting c blocks stage → LooksAtRoot c stage
      → Steps Took value_at w.memory (plan_at hash p stage) w2.memory end → RootTo end
  root_at at.Reads quiet facts root s = beside at.Reads quiet facts refl s
  root_at (at.Makes making) quiet facts root s = beside (at.Makes making) quiet facts (root, refl) s
  root_at (at.Sums table sum) quiet facts root s = beside (at.Sums table sum) quiet facts (root, refl) s
  root_at (at.Follows table need) quiet facts root s = beside (at.Follows table need) quiet facts (root, refl) s
  root_at (at.Grows table making) quiet facts root s = beside (at.Grows table making) quiet facts (root, refl) s
  root_at (at.Copies copier) quiet facts root s =
      let b = steps_back (copied p) w.memory w2.memory (copier_plan hash copier) end s in
      subst RootTo (sym b.2)
      (copies_at copier root facts b.0 (subst (λ (x : Reserve × Yielding (Node K V) Unit). ReserveAfter w2 0 setting c2 blocks2 same hash x) b.2 told) copier.stands refl quiet
      (knows_tables same hash w 0 setting c blocks copier facts) b.1)
  root_at at.Over quiet facts root s = absurd root
  root_at (at.Refused fault) quiet facts root s = beside (at.Refused fault) quiet facts refl s

  counts_at : (stage : Reserving) → LooksAtRoot c stage → CountsRoot same hash setting w c blocks map c.first p f w2.memory end stage
  counts_at (at.Sums table sum) root = (root, refl)
  counts_at at.Over root = root
  counts_at _ root = tt

  both : (e : Reserve × Yielding (Node K V) Unit) → ReserveAfter w2 0 setting c2 blocks2 same hash e → RootTo e → SumsTo same hash setting w c blocks map c.first p f w2.memory end e
      → KeepsToRoot setting w2.memory c2 e
  both (q, outcome.Goes) after root sums = (root, sums)
  both (q, outcome.Waits) after root sums = (root, sums)
  both (q, outcome.Gave value) after root sums = absurd after
  both (q, outcome.Done over) after root (count, places, said, from, made) =
      let len : c2.len c2.first ≡ c.len c.first = ap c2.len (sym root) ∙ (lasts.lens c.first made).0 in
      let more = lasts.past in (
        subst (λ (n : ℕ). needed q.additional n ≤ c2.len c2.first) said (omega (arith, places, len)),
        omega (arith, root, made, more),
      )
  both (q, outcome.Refused fault) after root sums = tt

  pub keeps_to_root : LooksAtRoot c p.stands → SumsUp setting w.memory p.stands → KeepsToRoot setting w2.memory c2 end
  keeps_to_root root sums =
      both end told (root_at p.stands none f.point root steps)
      (sums_on same hash setting w c blocks map c.first p f w2.memory end (counts_at p.stands root) sums steps)
