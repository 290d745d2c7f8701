-- Makings among many callers: what is refused of them, and one that is there.
mod Plans
use Rattle.std.specs.Prelude.{◌≡◌, ◌≢◌, ◌<◌, ◌≤◌, ◌^◌, ◌+◌, ℕ, Bool, max, [], Option, Some, None}
use Rattle.std.specs.Int.{IsPowerOfTwo}
use Rattle.std.proofs.Common.{refl, sym, ◌∙◌, arith}
use Rattle.many_calls.specs.Given.SeizeWordsDeclared.at.At.TheVariants.{Root, Used}
use Rattle.many_calls.specs.Given.SeizeWordsMem.{word_at}
use Rattle.many_calls.specs.Given.SeizeWorld.{World, InUse, at_start, with_at}
use Rattle.many_calls.specs.Given.TablesLengths.{IsTableLen}
use Rattle.many_calls.specs.Given.TablesNodes.{deferred_word}
use Rattle.many_calls.specs.Given.TablesDeclared.node.Node.{Node}
use Rattle.many_calls.specs.Given.TablesDeclared.setting.Setting.{Setting}
use Rattle.many_calls.specs.Given.ResizeNewMap.{opening}
use Rattle.many_calls.proofs.Given.PointsMaking.OwnTables.{zero_at}
use Rattle.many_calls.specs.Given.PointsSteps.{AreLawful}
use Rattle.many_maps.specs.Makings.{Beginning, HasTaken, HasMade, HasRoots, MakingsTogether}
use Rattle.many_maps.specs.Maps.{Standing}
use Rattle.many_calls.specs.Together.{UnderWay}
use Rattle.many_maps.proofs.Beside.Makings.Lasts.{made_counter}
use Rattle.many_maps.proofs.Beside.Makings.Promised.{no_makings_begin, makings_begin}
use Rattle.many_maps.proofs.Beside.Maps.Comes.{no_maps_begin}

module _ {K Q : Type 0} (V : Type 0) (same : K → K → Bool) (asks : Q → K → Bool) (batch_size roots : ℕ) (slot : ℕ → ℕ) where
  module _ (w : World (Node K V)) (maps : ℕ → Option (Standing K)) (calls : ℕ → ℕ → Option (UnderWay K V Q)) (makers : ℕ → Option (Beginning K)) where
    -- a map is made at the root of one that stands
    takes_a_maps_root : (i m : ℕ) (b : Beginning K) (s : Standing K) → makers i ≡ Some b → maps m ≡ Some s → HasTaken b.machine.stands → b.machine.setting.root ≡ s.setting.root
        → MakingsTogether V same asks batch_size roots slot w maps calls makers → ⊥
    takes_a_maps_root i m b s makes here taken is all = all.roots_apart i m b s makes here taken is

    -- two are made at one root
    share_a_root : (i j : ℕ) (b d : Beginning K) → i ≢ j → makers i ≡ Some b → makers j ≡ Some d → HasTaken b.machine.stands → HasTaken d.machine.stands
        → b.machine.setting.root ≡ d.machine.setting.root → MakingsTogether V same asks batch_size roots slot w maps calls makers → ⊥
    share_a_root i j b d ne makes has taken taken2 is all = all.their_roots i j b d ne makes has taken taken2 is

    -- a root that is free leads to a table
    leads_while_free : (r link : ℕ) → r < roots → word_at w.memory (Used r) ≡ Some 0 → word_at w.memory (Root r) ≡ Some (link + 1) → MakingsTogether V same asks batch_size roots slot w maps calls makers → ⊥
    leads_while_free r link l free leads all =
        let h = all.free r l in
        let used : h.0 ≡ 0 = one_word h.0 (h.1) free in
        let nowhere = h.2 used in
        let same_link = one_link (sym nowhere ∙ leads) in omega (arith, same_link)
      where
        one_word : (x : ℕ) → word_at w.memory (Used r) ≡ Some x → word_at w.memory (Used r) ≡ Some 0 → x ≡ 0
        one_word x is free = cc (is, free)

        one_link : {a z : ℕ} → ◌≡◌ {A = Option ℕ} (Some a) (Some z) → a ≡ z
        one_link e = cc e

    -- somebody has linked a making's counter
    loses_its_counter : (i : ℕ) (b : Beginning K) → makers i ≡ Some b → HasMade b.machine.stands → {o : ℕ} → w.hand b.machine.setting.counter ≡ InUse o
        → MakingsTogether V same asks batch_size roots slot w maps calls makers → ⊥
    loses_its_counter i b makes made {o} lost all =
        let own = (made_counter same i w w roots b.machine b.machine.stands made (all.facts i b makes).point).hand in cc (own, lost)

    -- a map is made by a caller that has a call
    makes_within_a_call : (i m : ℕ) (b : Beginning K) (u : UnderWay K V Q) → makers i ≡ Some b → calls m i ≡ Some u → MakingsTogether V same asks batch_size roots slot w maps calls makers → ⊥
    makes_within_a_call i m b u makes has all = let none = all.alone i b makes m in cc (none, has)

  -- all roots are free at the start
  pub start_roots : HasRoots (at_start {T = Node K V} deferred_word roots) roots
  start_roots r l = (0, zero_at roots r l, λ none. zero_at roots r l)

  -- and a first caller makes a first map there
  makes_at_the_start : (given : Setting) (hash : K → ℕ) (places : ℕ) → AreLawful same hash → IsPowerOfTwo given.initial → given.batch_size ≡ batch_size → given.mask + 1 < 2 ^ 64 → 0 < roots
      → (max places 8 ≤ 2 ^ 48 → IsTableLen (max places 8))
      → MakingsTogether {Q = Q} V same asks batch_size roots slot (at_start deferred_word roots) (λ m. None) (λ m i. None)
      (with_at (λ i. None) 0 (Some (record { map = 0; given = given; places = places; hash = hash; machine = opening given roots places })))
  makes_at_the_start given hash places lawful initial batches mask some sized =
      makings_begin V same asks batch_size roots slot (at_start deferred_word roots) (λ m. None) (λ m i. None) (λ i. None)
      (no_makings_begin V same asks batch_size roots slot (at_start deferred_word roots) (λ m. None) (λ m i. None)
      (no_maps_begin V same asks batch_size slot (at_start deferred_word roots) (roots, [], refl)) start_roots (λ m s here. absurd (cc here)))
      0 refl (λ m. refl) 0 refl (λ j d has. absurd (cc has)) given hash places lawful initial batches mask some sized
