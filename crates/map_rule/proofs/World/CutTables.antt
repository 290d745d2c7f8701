-- A caller unlinks the tables before the root, one after another.
use Rattle.std.specs.Prelude.{List, [], ◌∷◌}
use Rattle.std.proofs.Common.{◌≡◌, ◌≢◌, ℕ, zero, suc, ◌+◌, ◌<◌, ◌≤◌, Bool, true, inl, inr, refl, ap, arith, sym, subst}
use Rattle.std.proofs.lemmas.Bool.{cases_eq, eq-eqb}
use Rattle.seize_rule.specs.Given.SeizeLaw.{Unlinked}
use Rattle.seize_rule.specs.Given.SeizeWorld.{World, Making, InUse, Cutting, Event, Unlinks, Runs, with_hand, with_effect, MayCut}
use Rattle.map_machines.specs.Given.TablesNodes.{deferred_word}
use Rattle.map_machines.specs.Given.TablesDeclared.node.Node.{Node}
use Rattle.map_machines.specs.Given.TablesDeclared.setting.Setting.{Setting}
use Rattle.map_rule.specs.Moves.{passing}
use Rattle.map_rule.specs.Chart.{Chart}
use Rattle.map_rule.specs.Words.{Blocks}
use Rattle.map_rule.specs.InWorld.{AllUsers, AllIts, IsMapIn, SparesPairs, SparesOthers}
use Rattle.map_rule.proofs.World.Hands.{Hands, hand_kept, in_use_apart, current_known, hands_unlinked, named_known}
use Rattle.map_rule.proofs.Words.TablesSeen.{pair_apart}
use Rattle.map_rule.proofs.World.WentStill.{spares_same, spares_then, spares_hand}
use Rattle.map_rule.proofs.Words.LinksOwn.{OutsStay, OutsAreKnown, outs_same, outs_handed, known_same}
use Rattle.map_rule.proofs.World.OthersSpared.{keeps_same, keeps_then, keeps_handed, used_not_held}

-- the tables from s on are unlinked, up to t, which is then the root
module _ {K V : Type 0} (same : K → K → Bool) (hash : K → ℕ) (caller : ℕ) (setting : Setting) (w : World (Node K V)) (c : Chart K) (blocks : Blocks)
    (map : IsMapIn same hash setting w c blocks) (t : ℕ) (behind : c.first < t) (made : t < c.past) where
  abbrev pub root_at : Chart K
  root_at = record c { first = t; passed = passing c t }

  abbrev cut_at : World (Node K V) → ℕ → World (Node K V)
  cut_at v u = with_effect (with_hand v (blocks.table u) (Cutting caller)) (Unlinked (blocks.table u))

  pub record IsCut (v : World (Node K V)) : Type 0 where
    pub w2 : World (Node K V)
    pub events : List (Event (Node K V))
    pub users : AllUsers events
    pub its : AllIts setting caller w c blocks events
    pub runs : Runs deferred_word setting.batch_size events v w2
    pub memory : w2.memory ≡ v.memory
    pub hands : Hands same hash setting w2 root_at blocks
    pub spares : SparesPairs v w2
    pub others : SparesOthers caller v w2
    pub outs : OutsStay w.memory v.hand w2.hand
    pub known : OutsAreKnown caller v.hand w2.hand root_at blocks
    pub cut : (x : ℕ) → c.first ≤ x → x < t → w2.hand (blocks.table x) ≡ Cutting caller

  -- tables have blocks of their own
  apart : (x u : ℕ) → c.first ≤ x → x < c.past → c.first ≤ u → u < c.past → x ≢ u → blocks.table x ≢ blocks.table u
  apart x u l m l2 m2 ne e = ne (map.map.shows.tables_apart x u m m2 (map.map.shows.linked x l m) (map.map.shows.linked u l2 m2) e)

  pair_elsewhere : (u n : ℕ) → c.first ≤ u → u < c.past → (n < c.stored) × (blocks.pair_known n ≡ true) → blocks.pair n ≢ blocks.table u
  pair_elsewhere u n l m known e = pair_apart hash w.memory c blocks setting.root map.map.shows u n m (map.map.shows.linked u l m) known.0 known.1 (sym e)

  module _ (v : World (Node K V)) (u : ℕ) (l : c.first ≤ u) (before : u < t) (in_use : v.hand (blocks.table u) ≡ InUse setting.counter) where
    hands_cut : Hands same hash setting v root_at blocks → Hands same hash setting (cut_at v u) root_at blocks
    hands_cut hands = hands_unlinked same hash setting v root_at blocks (blocks.table u) caller
        (λ x low m. apart x u (omega (arith, low, behind)) m l (omega (arith, before, made)) (omega (arith, low, before)))
        (λ n is. pair_elsewhere u n l (omega (arith, before, made)) (current_known same hash setting w c blocks map.map.rule map.map.shows n is))
        (λ x i n phase borrowed low m e. pair_elsewhere u n l (omega (arith, before, made))
        (named_known same hash setting w c blocks map.map.rule map.map.shows x i n phase borrowed (omega (arith, low, behind)) e))
        hands

    spares_cut : SparesPairs v (cut_at v u)
    spares_cut = spares_hand v (blocks.table u) (Cutting caller) (Unlinked (blocks.table u) ∷ v.log) (λ j k x making is. absurd (cc (making, in_use)))

    still_used : (x : ℕ) → u < x → x < t → v.hand (blocks.table x) ≡ InUse setting.counter → (cut_at v u).hand (blocks.table x) ≡ InUse setting.counter
    still_used x low m used =
        hand_kept v.hand (blocks.table u) (Cutting caller) (InUse setting.counter) (blocks.table x) (apart x u (omega (arith, low, l)) (omega (arith, m, made)) l (omega (arith, before, made)) (omega (arith, low))) used

    is_cut : ((x : ℕ) → c.first ≤ x → x < u → v.hand (blocks.table x) ≡ Cutting caller) → (x : ℕ) → c.first ≤ x → x < suc u → (cut_at v u).hand (blocks.table x) ≡ Cutting caller
    is_cut cut x low m =
        elim (cases_eq x u) as (λ _. (cut_at v u).hand (blocks.table x) ≡ Cutting caller) [
          | inl e ↦ rw (eq-eqb (blocks.table x) (blocks.table u) (ap blocks.table e)) refl
          | inr ne ↦ hand_kept v.hand (blocks.table u) (Cutting caller) (Cutting caller) (blocks.table x)
              (apart x u low (omega (arith, m, before, made)) l (omega (arith, before, made)) ne) (cut x low (omega (arith, m, ne)))
        ]

    cut_then : Hands same hash setting v root_at blocks → IsCut (cut_at v u) → IsCut v
    cut_then hands rest = record {
      w2 = rest.w2;
      events = Unlinks caller (blocks.table u) ∷ rest.events;
      users = (tt, rest.users);
      its = (inr (inl (u, omega (arith, before, made), map.map.shows.linked u l (omega (arith, before, made)), refl)), rest.its);
      runs = (cut_at v u, (subst (MayCut caller) (sym in_use) tt, refl), rest.runs);
      memory = rest.memory;
      hands = rest.hands;
      spares = spares_then v (cut_at v u) rest.w2 spares_cut rest.spares;
      outs = λ b value is out. rest.outs b value is (outs_handed w.memory v.hand (blocks.table u) (Cutting caller) tt b value is out);
      known = λ b own. rest.known b (hand_kept v.hand (blocks.table u) (Cutting caller) (Making caller) b (λ e. in_use_apart v.hand (blocks.table u) b caller own in_use (sym e)) own);
      others = λ j other. keeps_then j v.memory v.memory rest.w2.memory v.hand (cut_at v u).hand rest.w2.hand
          (keeps_handed j v.memory v.hand (blocks.table u) (Cutting caller) (used_not_held j (v.hand (blocks.table u)) in_use)) (rest.others j other);
      cut = rest.cut;
    }

  pub cut_tables : (m u : ℕ) (v : World (Node K V)) → u + m ≡ t → c.first ≤ u → Hands same hash setting v root_at blocks
      → ((x : ℕ) → u ≤ x → x < t → v.hand (blocks.table x) ≡ InUse setting.counter) → ((x : ℕ) → c.first ≤ x → x < u → v.hand (blocks.table x) ≡ Cutting caller) → IsCut v
  cut_tables zero u v sum l hands used cut = record {
    w2 = v;
    events = [];
    users = tt;
    its = tt;
    runs = refl;
    memory = refl;
    hands = hands;
    spares = spares_same v;
    others = λ j other. keeps_same j v.memory v.hand;
    outs = outs_same w.memory v.hand;
    known = known_same caller v.hand root_at blocks;
    cut = λ x low m. cut x low (omega (arith, m, sum));
  }
  cut_tables (suc m) u v sum l hands used cut =
      let before : u < t = omega (arith, sum) in
      let in_use = used u (omega arith) before in
      cut_then v u l before in_use hands
      (cut_tables m (suc u) (cut_at v u) (omega (arith, sum)) (omega (arith, l)) (hands_cut v u l before in_use hands)
      (λ x low high. still_used v u l before in_use x (omega (arith, low)) high (used x (omega (arith, low)) high))
      (is_cut v u l before in_use cut))
