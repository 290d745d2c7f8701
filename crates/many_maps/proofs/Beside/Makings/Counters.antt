-- A making has its counter made, and has it taken away where it is refused.
use Rattle.std.specs.Prelude.{◌≡◌, ◌≢◌, ℕ, ◌+◌, ◌%◌, ◌^◌, ◌<◌, ◌≤◌, ◌==◌, Bool, true, false, cond, [], ◌∷◌, Some, None, Ok, IsSome, if◌then◌else◌}
use Rattle.std.proofs.Common.{refl, ap, sym, subst, ◌∙◌, inl, inr, arith}
use Rattle.std.proofs.lemmas.Bool.{eq-eqb, eqb-true, ne_eqb}
use Rattle.many_calls.specs.Given.SeizeWordsDeclared.fault.Fault.{Fault}
use Rattle.many_calls.specs.Given.SeizeWordsDeclared.fault.Fault.TheVariants.{Memory}
use Rattle.many_calls.specs.Given.SeizeWordsOp.{Make, Made, Taken}
use Rattle.many_calls.specs.Given.SeizeDeclared.states.TheConstants.{NEXT}
use Rattle.many_calls.specs.Given.SeizeWordsMem.{Mem, block_of, value_in, word_in, entry_in, value_at, with_block, IsFreeNumber, fresh, Can, Took, after as mem_after}
use Rattle.many_calls.specs.Given.SeizeWordsPlan.{Now, May, Steps}
use Rattle.many_calls.proofs.Given.SeizeWordsOneOwner.AfterWrites.{block_of-made, block_of-with_block}
use Rattle.many_calls.proofs.Given.SeizeWordsOneOwner.Operations.{may_make, made as make_made, may_take, taken}
use Rattle.many_calls.proofs.Given.SeizeMemoryWords.Named.{block_there}
use Rattle.many_calls.specs.Given.SeizeLaw.{Nowhere, Dropped, where_is}
use Rattle.many_calls.specs.Given.SeizeWorld.{World, Hand, NoBlock, Making, Makes, Drops, with_at, with_hand, with_effect, made_by}
use Rattle.many_calls.specs.Given.SeizeDeclared.advance.Advance.{Advance}
use Rattle.many_calls.specs.Given.TablesNodes.{deferred_word}
use Rattle.many_calls.specs.Given.TablesDeclared.node.Node.{Node}
use Rattle.many_calls.specs.Given.TablesDeclared.node.Node.TheVariants as node
use Rattle.many_calls.specs.Given.TablesDeclared.setting.Setting.{Setting}
use Rattle.many_calls.specs.Given.ResizeNewMap.{with_counter, at_root, goes, done, with_shards, made, shards, unmakes}
use Rattle.many_calls.specs.Given.ResizeNewTable.{first_table}
use Rattle.many_calls.specs.Given.ResizeDeclared.new_map.NewMap.{NewMap}
use Rattle.many_calls.specs.Given.ResizeDeclared.new_map.Opening.TheVariants as at
use Rattle.many_calls.proofs.Given.RuleWords.BlocksApart.{new_apart}
use Rattle.many_calls.proofs.Given.RuleWorld.Hands.{at_cases, hand_kept}
use Rattle.many_calls.proofs.Given.RuleWorld.OthersSpared.{keeps_made, keeps_dropped}
use Rattle.many_calls.specs.Given.RuleInWorld.{IsOut}
use Rattle.many_calls.specs.Given.RuleRule.{no_table}
use Rattle.many_calls.proofs.Given.PointsMaking.OwnTables.{zero_at}
use Rattle.many_calls.specs.Kept.{IsMaking}
use Rattle.many_maps.specs.Makings.{Beginning, HasTaken, HasMade, HasRoots, HasOwnCounter, OpeningFacts, MakingFacts, PreservesItsOwn}
use Rattle.many_maps.specs.Maps.{new_map}
use Rattle.many_calls.specs.Together.{CameAbout, no_blocks}
use Rattle.many_calls.proofs.Given.LateRooms.Making.FirstBegins.{first_table_begins}
use Rattle.many_maps.proofs.Beside.Makings.FirstLengths.{first_len}
use Rattle.many_maps.proofs.Beside.Makings.Leaves.{IsItsBlock, IsAsItWas, LeavesOthers, came_then}
use Rattle.many_maps.proofs.Beside.Makings.Went.{GoesTo, MakingWent, facts_at, still}
use Rattle.many_calls.proofs.Together.MapStands.{map_begins_together}
use Rattle.many_calls.proofs.Given.General.{some_is as is_some_of}

module _ {K Q : Type 0} (V : Type 0) (same : K → K → Bool) (asks : Q → K → Bool) (batch_size roots : ℕ) (slot : ℕ → ℕ) (w : World (Node K V)) (came : CameAbout batch_size w) (i : ℕ) (b : Beginning K)
    (f : MakingFacts w same batch_size roots i b) (free : HasRoots w roots) where
  abbrev n : NewMap
  n = b.machine

  abbrev Told : World (Node K V) → NewMap × Advance Setting → Type 0
  Told = GoesTo V same asks batch_size roots slot w i b

  -- the counter is made
  module _ (here : b.machine.stands ≡ at.Shards) (point : OpeningFacts w roots i b.machine at.Shards) where
    abbrev words : ℕ
    words = (b.machine.setting.mask + 1) % 2 ^ 64

    pub may_shards : May Can Took value_at w.memory (shards {K = K} {V = V} b.machine)
    may_shards = may_make w.memory (made n) node.Shards words (λ x is. tt) (λ back is. tt)

    module _ (x : ℕ) (is : IsFreeNumber w.memory x × (x < 2 ^ 53)) where
      abbrev w2 : World (Node K V)
      w2 = made_by deferred_word w i (mem_after w.memory (Make node.Shards ((b.machine.setting.mask + 1) % 2 ^ 64)) (Made (Ok x))) (Made (Ok x))

      abbrev begun : NewMap
      begun = record b.machine { setting = with_counter b.machine.setting x }

      block_is : block_of w2.memory x ≡ Some (fresh node.Shards words)
      block_is = block_of-made w.memory node.Shards words x x is.0 ∙ ap (λ q. cond q (Some (fresh node.Shards words)) (block_of w.memory x)) (eq-eqb x x refl)

      other_block : (y : ℕ) → y ≢ x → block_of w2.memory y ≡ block_of w.memory y
      other_block y ne = block_of-made w.memory node.Shards words x y is.0 ∙ ap (λ q. cond q (Some (fresh node.Shards words)) (block_of w.memory y)) (ne_eqb y x ne)

      left : LeavesOthers i b.machine w w2 batch_size roots
      left = record {
        events = Makes i node.Shards words ∷ [];
        users = (tt, tt);
        runs = (w2, (Made (Ok x), w2.memory, tt, (is, refl), refl), refl);
        blocks = λ y value there other. as_it_was y (new_apart w.memory y x value there is.0);
        root = λ r word read other. read;
        used = λ r read other. read;
        free = free;
        own = λ j other. keeps_made i w j other node.Shards words x is.0;
      }
        where
          as_it_was : (y : ℕ) → y ≢ x → IsAsItWas i b.machine w w2 y
          as_it_was y ne = record {
            value = ap value_in (other_block y ne);
            words = λ field word read. ap (λ o. word_in o field) (other_block y ne) ∙ read;
            hand = hand_kept w.hand x (Making i) (w.hand y) y ne refl;
            owner = refl;
            orphan = refl;
            over = refl;
            place = refl;
            link = λ word apart read. ap (λ o. entry_in o NEXT) (other_block y ne) ∙ read;
          }

      room : (shard : ℕ) → shard ≤ b.machine.setting.mask → shard < words
      room shard l = below b.machine.setting.mask b.given.mask shard (ap (λ (s : Setting). s.mask) f.setting_is) f.mask l
        where
          below : (mask given shard : ℕ) → mask ≡ given → given + 1 < 2 ^ 64 → shard ≤ mask → shard < (mask + 1) % 2 ^ 64
          below mask given shard e fits l = omega (arith, fits, e, l)

      counter : HasOwnCounter w2 i (with_counter b.machine.setting x)
      counter = record {
        hand = at_cases (λ (h : Hand). h ≡ Making i) w.hand x (Making i) x (λ e. refl) (λ ne. absurd (ne refl));
        value = ap value_in block_is;
        shards = λ shard l. (0, ap (λ o. word_in o shard) block_is ∙ zero_at words shard (room shard l));
      }

      setting_begun : with_counter b.machine.setting x ≡ with_counter (at_root b.given b.machine.setting.root) x
      setting_begun = ap (λ (s : Setting). with_counter s x) f.setting_is

      batches : b.machine.setting.batch_size ≡ batch_size
      batches = ap (λ (s : Setting). s.batch_size) f.setting_is ∙ f.batches

      not_zero : (len : ℕ) → (len == 0) ≡ false → len ≢ 0
      not_zero len e is = (let one = eq-eqb len 0 is in cc (one, e))

      shards_told : Told w2 (with_shards begun)
      shards_told = by (b.machine.len == 0) refl
        where
          by : (q : Bool) → (b.machine.len == 0) ≡ q → Told w2 (if q then done begun else goes begun (at.Tables (first_table (with_counter b.machine.setting x) b.machine.len)))
          by true e = record {
            s = new_map (with_counter b.machine.setting x) b.hash;
            made = record { setting_is = refl; answer_is = setting_begun; hash_is = refl; chart_is = inl (sym f.len_is ∙ eqb-true b.machine.len 0 e, refl) };
            together = λ calls none.
                map_begins_together V same b.hash asks (with_counter b.machine.setting x) slot w2 calls none
                (subst (λ (size : ℕ). CameAbout size w2) (sym batches) (came_then batch_size roots i b.machine w w2 came left)) point.1 counter.value counter.shards (subst IsMaking (sym counter.hand) tt);
            root = inl (subst HasTaken (sym here) tt, refl);
            counter = inr (ap value_in is.0.0);
            used = point.0;
          }
          by false e = (
            facts_at V same asks batch_size roots slot w i b f free w2 (record begun { stands = at.Tables (first_table (with_counter b.machine.setting x) b.machine.len) }) setting_begun refl refl
                (point, counter, first_table_begins w2 i (with_counter b.machine.setting x) no_table no_blocks b.machine.len f.len, not_zero b.machine.len e, first_len (with_counter b.machine.setting x) b.machine.len),
            λ has. inl (subst HasTaken (sym here) tt, refl),
            λ has. inr (ap value_in is.0.0),
          )

      shards_keep : PreservesItsOwn V same asks batch_size roots slot w w2 b.machine (with_shards begun)
      shards_keep = by (b.machine.len == 0)
        where
          by : (q : Bool) → PreservesItsOwn V same asks batch_size roots slot w w2 b.machine (if q then done begun else goes begun (at.Tables (first_table (with_counter b.machine.setting x) b.machine.len)))
          by true = (λ has. refl, λ has. absurd (subst HasMade here has))
          by false = (λ has. (tt, refl), λ has. absurd (subst HasMade here has))

    not_new : (x y : ℕ) → IsOut (with_at w.hand x (Making i) y) → IsOut (w.hand y)
    not_new x y = at_cases (λ (h : Hand). IsOut h → IsOut (w.hand y)) w.hand x (Making i) y (λ e none. absurd none) (λ ne is. is)

    pub went_shards : (m2 : Mem (Node K V)) (end : NewMap × Advance Setting) → Steps Took value_at w.memory (shards b.machine) m2 end → MakingWent V same asks batch_size roots slot w i b m2 end
    went_shards m2 end s =
        elim (make_made w.memory (made n) node.Shards words m2 end s) as (λ _. MakingWent V same asks batch_size roots slot w i b m2 end) [
          | inl d ↦ record {
            w2 = w2 d.0 d.1;
            memory = sym d.2;
            left = left d.0 d.1;
            keeps = subst (PreservesItsOwn V same asks batch_size roots slot w (w2 d.0 d.1) b.machine) (sym d.3) (shards_keep d.0 d.1);
            unused = λ r is. inl is;
            links = λ y out. inl (not_new d.0 y out);
            told = subst (Told (w2 d.0 d.1)) (sym d.3) (shards_told d.0 d.1);
          }
          | inr d ↦ still V same asks batch_size roots slot w i b f free m2 d.2 end (goes n (at.Frees Memory)) d.3 (λ has. (tt, refl), λ has. absurd (subst HasMade here has)) (
            facts_at V same asks batch_size roots slot w i b f free w (record b.machine { stands = at.Frees Memory }) f.setting_is refl refl point,
            λ has. inl (subst HasTaken (sym here) tt, refl),
            λ has. absurd has,
          )
        ]

  -- the counter is taken away
  module _ (fault : Fault) (here : b.machine.stands ≡ at.Unmakes fault) (point : OpeningFacts w roots i b.machine (at.Unmakes fault)) where
    abbrev x : ℕ
    x = b.machine.setting.counter

    there : IsSome (value_at w.memory b.machine.setting.counter)
    there = is_some_of (value_at w.memory x) node.Shards point.1.value

    abbrev gone : World (Node K V)
    gone = with_effect (with_hand (record w { memory = with_block w.memory b.machine.setting.counter None }) b.machine.setting.counter NoBlock) (Dropped b.machine.setting.counter)

    pub may_unmakes : May Can Took value_at w.memory (unmakes {K = K} {V = V} b.machine fault)
    may_unmakes = may_take w.memory (λ out. Now (goes n (at.Frees fault))) x there (λ value is. tt)

    left_gone : LeavesOthers i b.machine w gone batch_size roots
    left_gone = record {
      events = Drops i x ∷ [];
      users = (tt, tt);
      runs = (gone, (Taken node.Shards, with_block w.memory x None, (i, point.1.hand), (point.1.value, refl), refl), refl);
      blocks = λ y value was other. as_it_was y (λ e. other (subst (IsItsBlock i b.machine w) (sym e) (point.1.hand, inr (subst HasMade (sym here) tt, refl))));
      root = λ r word read other. read;
      used = λ r read other. read;
      free = free;
      own = λ j other. keeps_dropped i w j other x point.1.hand there;
    }
      where
        other_block : (y : ℕ) → y ≢ b.machine.setting.counter → block_of gone.memory y ≡ block_of w.memory y
        other_block y ne = let z = block_there w.memory x there in block_of-with_block w.memory x y z.0 None z.1 ∙ ap (λ q. cond q None (block_of w.memory y)) (ne_eqb y x ne)

        as_it_was : (y : ℕ) → y ≢ b.machine.setting.counter → IsAsItWas i b.machine w gone y
        as_it_was y ne = record {
          value = ap value_in (other_block y ne);
          words = λ field word read. ap (λ o. word_in o field) (other_block y ne) ∙ read;
          hand = hand_kept w.hand x NoBlock (w.hand y) y ne refl;
          owner = refl;
          orphan = refl;
          over = refl;
          link = λ word apart read. ap (λ o. entry_in o NEXT) (other_block y ne) ∙ read;
          place = ap (λ (q : Bool). cond q Nowhere (where_is y w.log)) (ne_eqb y x ne);
        }

    taken_away : value_at gone.memory b.machine.setting.counter ≡ None
    taken_away = ap value_in (let z = block_there w.memory x there in block_of-with_block w.memory x x z.0 None z.1 ∙ ap (λ q. cond q None (block_of w.memory x)) (eq-eqb x x refl))

    pub went_unmakes : (m2 : Mem (Node K V)) (end : NewMap × Advance Setting) → Steps Took value_at w.memory (unmakes b.machine fault) m2 end → MakingWent V same asks batch_size roots slot w i b m2 end
    went_unmakes m2 end s =
        let d = taken w.memory (λ out. Now (goes n (at.Frees fault))) x m2 end s in
        record {
          w2 = gone;
          memory = sym d.2;
          left = left_gone;
          keeps = subst (PreservesItsOwn V same asks batch_size roots slot w gone b.machine) (sym d.3) (λ has. (tt, refl), λ has. inr taken_away);
          unused = λ r is. inl is;
          links = λ y out. inl (at_cases (λ (h : Hand). IsOut h → IsOut (w.hand y)) w.hand x NoBlock y (λ e none. absurd none) (λ ne is. is) out);
          told = subst (Told gone) (sym d.3) (
            facts_at V same asks batch_size roots slot w i b f free gone (record b.machine { stands = at.Frees fault }) f.setting_is refl refl point.0,
            λ has. inl (subst HasTaken (sym here) tt, refl),
            λ has. absurd has,
          );
        }
