-- A pair that was just taken out of its map lies so as the disposal of it begins: past the root, or in the table by which that goes, borrowed there.
use Rattle.std.specs.Prelude.{◌≡◌, ℕ, ◌≤◌, nat_lt, Bool, true, false, MatchBool, List, Some, if◌then◌else◌}
use Rattle.std.proofs.Common.{refl, ap, sym, subst, ◌∙◌, arith}
use Rattle.std.proofs.lemmas.Bool.{ltb-true}
use Rattle.run_executor.specs.Given.SeizeWordsWord.{block_in}
use Rattle.run_executor.specs.Given.SeizeWordsDeclared.at.At.TheVariants.{Word}
use Rattle.run_executor.specs.Given.SeizeWorld.{IsInside}
use Rattle.run_blocks.specs.Given.TablesChunks.{is_incremental}
use Rattle.run_blocks.specs.Given.TablesMarks.{link_in, has_mark}
use Rattle.run_blocks.specs.Given.TablesDeclared.marks.TheConstants.{BORROWED}
use Rattle.run_blocks.specs.Given.TablesDeclared.resize_mode.ResizeMode.{ResizeMode}
use Rattle.run_blocks.specs.Given.TablesDeclared.resize_mode.ResizeMode.TheVariants.{Incremental, Blocking}
use Rattle.run_blocks.specs.Given.TablesDeclared.setting.Setting.{Setting}
use Rattle.run_blocks.specs.Given.TablesDeclared.table.Table.{Table}
use Rattle.run_blocks.specs.Given.ResizeDispose.{retires, start_of, disposing}
use Rattle.run_blocks.specs.Given.ResizeDeclared.dispose.Dispose.{Dispose}
use Rattle.run_blocks.specs.Given.ResizeDeclared.dispose.Disposing.TheVariants as at
use Rattle.run_executor.specs.Given.RunsDeclared.effect.Spot.{Spot}
use Rattle.run_executor.specs.Given.SchedulesMoment.{Moment}
use Rattle.run_executor.specs.Given.SchedulesViews.{first_of, map_at, grows_in_chunks}
use Rattle.run_executor.specs.Given.EffectsDeclared.changed.Changed.{Changed}
use Rattle.run_executor.specs.Given.EffectsDeclared.changed.Changed.TheVariants as changed
use Rattle.run_executor.specs.Given.TellsTells.{place_at}
use Rattle.run_executor.specs.Given.RuleChart.{Still, Holds, Chart}
use Rattle.run_executor.specs.Given.RuleMaps.{IsTable}
use Rattle.run_executor.specs.Given.RuleWords.{Blocks, byte_of, place_word}
use Rattle.run_executor.proofs.Given.RuleWords.PlaceWordsMarks.{pair_borrowed}
use Rattle.run_executor.proofs.Given.RuleWords.TablesSeen.{block_of_link}
use Rattle.run_executor.specs.Given.CallersSights.{seen_by}
use Rattle.run_executor.specs.Given.EffectsKnown.{Known}
use Rattle.run_executor.specs.Given.FinishesMaps.{Standing}
use Rattle.run_executor.specs.Given.FollowsShows.{Refines}
use Rattle.run_executor.proofs.Given.FollowsFinds.{first_is, chunks_are}
use Rattle.run_executor.proofs.Given.FollowsOperations.{Operated}
use Rattle.run_executor.specs.Given.SpotsSpots.{ThePair, named_by, LiesAt, RefinesPlaces}
use Rattle.run_finds.specs.Waits.{waits_in_disposing, waits_of, LiesFor}
use Rattle.run_finds.proofs.Waits.Taken.{TookPair, is_map}
use Rattle.run_executor.specs.Given.ScenesHeld.{Held, IsAt}
use Rattle.run_executor.specs.Given.ScenesScene.{Scene, slot_of}

module _ {K V : Type 0} (same : K → K → Bool) (hash : ℕ → K → ℕ) (m : Moment K V) (known : Known) (s : Scene K V) (old new : Held K V) (at_old : IsAt same hash old s)
    (name : ℕ → List ℕ) (shown : Refines same name m known s) (lying : RefinesPlaces m known s.maps) (map i : ℕ) (standing : Standing K) (there : s.maps map ≡ Some standing)
    (made : Operated s.world.memory new.memory new.changed) (inside_it : IsInside (s.world.uses (slot_of i))) (k : ℕ)
    (took : TookPair same hash m known s old new at_old name shown lying map i standing there made inside_it k) where
  abbrev c : Chart K
  c = standing.chart

  abbrev seen : Blocks
  seen = seen_by standing.blocks (standing.sights (slot_of i))

  abbrev told : Changed
  told = new.changed

  abbrev born : ℕ
  born = (m.born k).turn

  abbrev lies : ℕ
  lies = (m.spot k).turn

  root_is : first_of map m ≡ c.first
  root_is = first_is map (shown.number map) standing m known (shown.maps map standing there)

  chunks : grows_in_chunks (map_at map m) ≡ is_incremental standing.setting.mode
  chunks = chunks_are map (shown.number map) standing m known (shown.maps map standing there)

  -- of a call that has written this word of its table's
  module _ (table : Table) (u : ℕ) (is_table : IsTable c seen table u) (own : Setting) (own_mode : own.mode ≡ standing.setting.mode) (field word new_word : ℕ)
      (wrote : told ≡ changed.Wrote (Word (block_in table.link) field) word new_word) where
    both : ◌≡◌ {A = Changed} (changed.Wrote (Word (block_in table.link) field) word new_word) (changed.Wrote (place_at seen took.t took.place) (place_word standing.hash c seen (Holds took.n Still took.borrowed)) took.word)
    both = sym wrote ∙ took.wrote

    its_block : block_in table.link ≡ seen.table took.t
    its_block = (let e = both in cc e)

    its_word : word ≡ place_word standing.hash c seen (Holds took.n Still took.borrowed)
    its_word = (let e = both in cc e)

    -- which is the one in which the pair lies
    turn_is : took.t ≡ u
    turn_is = (is_map same hash m known s old new at_old name shown lying map i standing there made inside_it k).map.shows.tables_apart took.t u took.within is_table.made took.table_seen is_table.known
        (sym its_block ∙ ap (λ (x : Table). block_in x.link) is_table.is ∙ block_of_link (seen.table u))

    lies_in : lies ≡ table.turn
    lies_in = ap (λ (x : Spot). x.turn) took.spot ∙ turn_is ∙ sym (ap (λ (x : Table). x.turn) is_table.is)

    -- and which says whether it is borrowed there
    mark_is : has_mark word BORROWED ≡ took.borrowed
    mark_is = ap (λ (x : ℕ). has_mark x BORROWED) its_word ∙ pair_borrowed seen.pair (λ o. byte_of standing.hash (c.key o)) took.n Still took.borrowed

    borrowed_as : (b : Bool) → named_by (c.place (m.spot k).turn (m.spot k).place) ≡ ThePair took.n b → took.borrowed ≡ b
    borrowed_as b named =
        let here : named_by (c.place (m.spot k).turn (m.spot k).place) ≡ ThePair took.n took.borrowed =
        ap (λ (x : Spot). named_by (c.place x.turn x.place)) took.spot ∙ ap named_by took.held in
        (let one = sym here ∙ named in cc one)

    abbrev its : Dispose
    its = disposing own word table

    past_so : (b : Bool) → nat_lt born lies ≡ b → (b ≡ true → lies ≤ first_of map m) → LiesFor map m k (waits_in_disposing its (retires own (link_in word)))
    past_so true e here = subst (λ (x : Bool). MatchBool x (lies ≤ first_of map m) (Unit {0})) (sym e) (here refl)
    past_so false e here = subst (λ (x : Bool). MatchBool x (lies ≤ first_of map m) (Unit {0})) (sym e) tt

    starts : (mode : ResizeMode) → is_incremental mode ≡ is_incremental standing.setting.mode → LiesAt c (is_incremental mode) took.n (m.spot k) born → LiesFor map m k (waits_in_disposing its (start_of own mode word))
    starts (Incremental chunk) mode_is at_place = by (has_mark word BORROWED) refl
      where
        is_borrowed : (b : Bool) → has_mark word BORROWED ≡ b → nat_lt born lies ≡ b
        is_borrowed b e = sym (borrowed_as (nat_lt born lies) at_place.1) ∙ sym mark_is ∙ e

        by : (b : Bool) → has_mark word BORROWED ≡ b → LiesFor map m k (waits_in_disposing its (if b then at.Reads else retires own (link_in word)))
        by true e = (lies_in, (let l = ltb-true born lies (is_borrowed true e) in let own_turn = lies_in in omega (arith, l, own_turn)), chunks ∙ sym mode_is)
        by false e = past_so false (is_borrowed false e) (λ no. absurd (cc no))
    starts Blocking mode_is at_place = past_so (nat_lt born lies) refl (λ e. (let turn = at_place.0 in let root = root_is in omega (arith, turn, root)))

    pub new_lies : LiesFor map m k (waits_of (disposing own word table))
    new_lies = starts own.mode (ap is_incremental own_mode) (subst (λ (mode : ResizeMode). LiesAt c (is_incremental mode) took.n (m.spot k) born) (sym own_mode) took.lies)
