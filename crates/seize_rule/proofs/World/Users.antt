-- What users do beside the rows: blocks are made, dropped, linked and unlinked. The world stays good.
use Rattle.std.specs.Prelude.{Option, Some, None, is_some, IsSome, Ok, if◌then◌else◌}
use Rattle.std.proofs.Common.{◌≡◌, ℕ, ◌+◌, ◌<◌, ◌≤◌, ◌^◌, Bool, true, false, cond, eqb, List, [], ◌∷◌, length, refl, arith, subst, sym, ap, ◌∙◌, eqb-true}
use Rattle.seize_moves.specs.Given.SeizeWordsMem.{Mem, value_at, with_block, after, IsFreeNumber}
use Rattle.seize_moves.specs.Given.SeizeWordsOp.{Make, Made}
use Rattle.seize_moves.specs.Given.SeizeLaw as law
use Rattle.seize_moves.specs.Given.SeizeLaw.{Effect, Linked, Unlinked, Dropped, Ended, is_open}
use Rattle.seize_moves.specs.Given.SeizeWorld.{World, Hand, NoBlock, Making, InUse, Parting, Cutting, MayClear, with_at, with_hand, with_effect, MayCut}
use Rattle.seize_moves.proofs.Moves.State.Ghost.{put, State, Life, IsFree, IsOwned, IsLinked, IsUnlinked, of_dropper, of_row, emptied}
use Rattle.seize_moves.proofs.Moves.State.Together.{stays}
use Rattle.seize_moves.proofs.Moves.State.Rule.{Inv, Keeps, Pending, same_row, row_of, same_slot, slot_of, same_batch, batch_of, retirals, open_length}
use Rattle.seize_moves.proofs.Moves.State.Moves.{made, dropped, linked, unlinked, ended}
use Rattle.seize_moves.proofs.Moves.Moves.Blocks.{made_moves, dropped_moves, linked_moves, unlinked_moves, ended_moves}
use Rattle.seize_moves.proofs.Memory.Words.Named.{made_one, taken_one}
use Rattle.seize_moves.proofs.Memory.Words.View.{View, view, list_in, view_made, view_taken}
use Rattle.seize_moves.proofs.Memory.Words.Shows.{Extra, Shows, KeepsWords, KeptOwn, Spot, Nowhere, SpotLife, has_next, has_first, has_entry, has_own, keeps_like}
use Rattle.seize_moves.proofs.Memory.Written.Blocks.{none_deferred, linked_written, unlinked_written}
use Rattle.seize_moves.proofs.Memory.Written.Own.{with_new, made_written}
use Rattle.seize_moves.proofs.Memory.Written.Takes.{without, dropped_off, dropped_written}
use Rattle.seize_rule.proofs.Points.Aside.{AllHands, HandFits, standing_life, cut_stands}
use Rattle.seize_rule.proofs.Rows.Known.{ListsLast}
use Rattle.seize_rule.proofs.Rows.KnownLasts.{row_last}
use Rattle.seize_rule.proofs.Rows.Teams.{Used}
use Rattle.seize_moves.proofs.Memory.Words.There.{free_word, stocked_made, stocked_taken}
use Rattle.seize_moves.proofs.Memory.Words.Room.{HasRoom, room_made, room_taken_block}
use Rattle.seize_rule.proofs.Rows.Short.{short_by, no_longer}
use Rattle.seize_moves.proofs.Moves.Sets.Unmoved.{is_in_wait, put_waits, Unmoved, unmoved_kept, unmoved_same}
use Rattle.seize_rule.proofs.World.Good.{Good, StillGood, Stays}

-- a number without a block is free
free_number : (n b : ℕ) (f : View) (m : State) (x : Extra) → Shows n f m x → f.live b ≡ false → m.life b ≡ IsFree
free_number n b f m x v dead = grind (arith, v.lists.lived b)

as_long : (k a b : ℕ) (z : Bool) → b ≡ a → k + cond z a 0 ≤ k + cond z b 0
as_long k a b true e = omega (arith, e)
as_long k a b false e = omega arith

-- a block of no row becomes another one of no row
pub keeps_lives : (n i s : ℕ) (m : State) (life2 : ℕ → Life) (carrier2 : ℕ → Bool) (log2 : List Effect)
    → ((j c : ℕ) → of_row j (m.life c) ≡ true → (life2 c ≡ m.life c) × (carrier2 c ≡ m.carrier c))
    → retirals log2 ≡ retirals m.log
    → Keeps n i s m (record m { life = life2; carrier = carrier2; log = log2 })
keeps_lives n i s m life2 carrier2 log2 lives same = record {
  rows = λ j e. same_row (row_of m j);
  slots = λ t e. same_slot (slot_of m t);
  holding = λ j t e f. (refl, refl);
  batches = λ j x e f. same_batch (batch_of n m x);
  lives = λ j c e f. lives j c f;
  lists = λ j c e f. refl;
  taken_slots = λ t e. e;
  marked = λ j x t ne closing d. (d, ([], refl));
  lengths = λ t l. as_long (open_length m t) (retirals m.log) (retirals log2) (eqb t s) same;
}

not_of_row : (l k : Life) (t : Bool) (j : ℕ) → of_row j l ≡ true → (t ≡ true → of_row j l ≡ false) → cond t k l ≡ l
not_of_row l k true j h none = absurd (let e = none refl in cc)
not_of_row l k false j h none = refl

put_row : (m : State) (b j c : ℕ) (k : Life) → of_row j (m.life b) ≡ false → of_row j (m.life c) ≡ true → put m.life b k c ≡ m.life c
put_row m b j c k none h = not_of_row (m.life c) k (eqb c b) j h (λ e. subst (λ (a : ℕ). of_row j (m.life a) ≡ false) (sym (eqb-true c b e)) none)

module _ {T : Type 0} {size : ℕ} (defers : T → Option ℕ) (n : ℕ) (w : World T) (good : Good defers n size w) where
  m : State
  m = good.state

  -- no slot's head and no row changes
  pub shown_good : (mem2 : Mem T) (m2 : State) (y : Extra) (hand2 : ℕ → Hand) (log2 : List Effect) → Inv n m2 → Shows n (view defers mem2) m2 y → Pending m2.stage m2.counter → m2.log ≡ log2
      → ((i : ℕ) → Keeps n i 0 good.state m2) → ((i : ℕ) → KeepsWords i (view defers w.memory) good.state good.extra (view defers mem2) y)
      → AllHands hand2 m2.life → Used m2.head m2.log w.row w.uses → HasRoom n m2.head mem2 → Stays defers w.memory mem2
      → ((t : ℕ) → emptied (m2.head t) ≡ emptied (good.state.head t)) → retirals m2.log ≡ retirals good.state.log
      → (g : Good defers n size (record w { memory = mem2; hand = hand2; log = log2 })) × (g.state ≡ m2)
  shown_good mem2 m2 y hand2 log2 inv2 v2 pending logged keeps words hands used room stays heads same = (
    record {
      state = m2;
      extra = y;
      inv = inv2;
      shows = v2;
      pending = pending;
      logged = logged;
      rows = λ j. row_last n (j + 1) 0 j (length w.memory.slots) (length mem2.slots) (view defers w.memory) (view defers mem2) good.state m2 good.extra y
          (keeps (j + 1)) (words (j + 1)) good.inv good.shows inv2 v2 stays.lists stays.more (λ e. omega arith) (w.row j) (λ t h. heads t) (good.rows j);
      hands = hands;
      used = used;
      room = room;
      stocked = stays.stocked;
      short = λ t l none. short_by n 0 0 size good.state m2 (keeps 0) t (no_longer n 0 0 good.state m2 (keeps 0) t l same) (good.short t l none);
    },
    refl,
  )

  -- nor what the waiting sets say
  pub users_good : (mem2 : Mem T) (m2 : State) (y : Extra) (hand2 : ℕ → Hand) (log2 : List Effect) → Inv n m2 → Shows n (view defers mem2) m2 y → Pending m2.stage m2.counter → m2.log ≡ log2
      → ((i : ℕ) → Keeps n i 0 good.state m2) → ((i : ℕ) → KeepsWords i (view defers w.memory) good.state good.extra (view defers mem2) y)
      → AllHands hand2 m2.life → Used m2.head m2.log w.row w.uses → HasRoom n m2.head mem2 → Stays defers w.memory mem2
      → ((t : ℕ) → emptied (m2.head t) ≡ emptied (good.state.head t)) → retirals m2.log ≡ retirals good.state.log → Unmoved n good.state m2
      → StillGood defers n size good.state (record w { memory = mem2; hand = hand2; log = log2 })
  users_good mem2 m2 y hand2 log2 inv2 v2 pending logged keeps words hands used room stays heads same unmoved =
      let g = shown_good mem2 m2 y hand2 log2 inv2 v2 pending logged keeps words hands used room stays heads same in
      (g.0, subst (λ (k : State). Unmoved n good.state k) (sym g.1) unmoved)

  -- the same slots are used by the same rows
  pub used_still : (log2 : List Effect) → ((s : ℕ) → is_open s log2 ≡ is_open s good.state.log) → Used good.state.head log2 w.row w.uses
  used_still log2 same = record {
    team = good.used.team;
    teamed = good.used.teamed;
    fits = λ s. rw (same s) (good.used.fits s);
    kinds = good.used.kinds;
  }

  hands_put : (b : ℕ) (h : Hand) (l : Life) → HandFits h l → AllHands (with_at w.hand b h) (put good.state.life b l)
  hands_put b h l fits c = at (eqb c b)
    where
      at : (t : Bool) → HandFits (if t then h else w.hand c) (cond t l (good.state.life c))
      at true = fits
      at false = good.hands c

  pub fits_of : (b : ℕ) (h : Hand) → w.hand b ≡ h → HandFits h (good.state.life b)
  fits_of b h e = subst (λ (k : Hand). HandFits k (good.state.life b)) e (good.hands b)

  pub stays_same : Stays defers w.memory w.memory
  stays_same = record { stocked = good.stocked; lists = λ c d has live. has; more = omega arith }

  same_words : (i : ℕ) → KeepsWords i (view defers w.memory) good.state good.extra (view defers w.memory) good.extra
  same_words i = keeps_like i (view defers w.memory) good.state good.extra (view defers w.memory) refl refl refl refl refl

  -- a block that a caller has made is linked
  pub links_good : (i b o : ℕ) → w.hand b ≡ Making i → StillGood defers n size good.state (with_effect (with_hand w b (InUse o)) (Linked b o))
  links_good i b o has =
      let owned : good.state.life b ≡ IsOwned i = fits_of b (Making i) has in
      let moved = linked_moves n i 0 good.state b o good.inv owned in
      users_good w.memory (linked good.state b o) good.extra (with_at w.hand b (InUse o)) (Linked b o ∷ w.log) moved.inv
      ((linked_written n i b o (view defers w.memory) good.state good.extra good.shows owned).shows) good.pending (ap (λ (l : List Effect). Linked b o ∷ l) good.logged)
      (λ k. keeps_lives n k 0 good.state (put good.state.life b IsLinked) good.state.carrier (Linked b o ∷ good.state.log)
      (λ j c h. (put_row good.state b j c IsLinked (rw owned refl) h, refl)) refl)
      same_words (hands_put b (InUse o) IsLinked refl) (used_still (Linked b o ∷ good.state.log) (λ s. refl)) good.room stays_same (λ t. refl) refl
      (unmoved_kept n good.state (linked good.state b o) refl refl refl refl refl refl refl (put_waits good.state.life b IsLinked (ap is_in_wait owned)) refl)

  -- a caller takes a block out of what it was in: only its hand is another one
  pub parts_good : (i b o : ℕ) → w.hand b ≡ InUse o → StillGood defers n size good.state (with_hand w b (Parting i))
  parts_good i b o has =
      users_good w.memory good.state good.extra (with_at w.hand b (Parting i)) w.log good.inv good.shows good.pending good.logged
      (λ k. (stays n k 0 good.state good.inv).keeps) same_words parted good.used good.room stays_same (λ t. refl) refl (unmoved_same n good.state)
    where
      parted : AllHands (with_at w.hand b (Parting i)) good.state.life
      parted c = at (eqb c b) (λ e. ap good.state.life (eqb-true c b e) ∙ fits_of b (InUse o) has)
        where
          at : (t : Bool) → (t ≡ true → good.state.life c ≡ IsLinked) → HandFits (if t then Parting i else w.hand c) (good.state.life c)
          at true linked = linked refl
          at false linked = good.hands c

  -- an owner ends: nothing but the log is another one
  pub ends_good : (o : ℕ) → StillGood defers n size good.state (with_effect w (Ended o))
  ends_good o =
      let moved = ended_moves n 0 0 good.state o good.inv in
      users_good w.memory (ended good.state o) good.extra w.hand (Ended o ∷ w.log) moved.inv (record { entries = good.shows.entries; linkage = good.shows.linkage; lists = good.shows.lists }) good.pending (ap (λ (l : List Effect). Ended o ∷ l) good.logged)
      (λ k. (ended_moves n k 0 good.state o good.inv).keeps) same_words good.hands (used_still (Ended o ∷ good.state.log) (λ s. refl)) good.room stays_same (λ t. refl) refl
      (unmoved_kept n good.state (ended good.state o) refl refl refl refl refl refl refl (λ c e. refl) refl)

  -- a block is unlinked by a caller, who is to retire it
  pub unlinks_good : (i b : ℕ) → MayCut i (w.hand b) → StillGood defers n size good.state (with_effect (with_hand w b (Cutting i)) (Unlinked b))
  unlinks_good i b has =
      let used : good.state.life b ≡ IsLinked = standing_life (w.hand b) (good.state.life b) (cut_stands i (w.hand b) has) (good.hands b) in
      let moved = unlinked_moves n i 0 good.state b good.inv used in
      users_good w.memory (unlinked good.state i b) good.extra (with_at w.hand b (Cutting i)) (Unlinked b ∷ w.log) moved.inv
      ((unlinked_written n i b (view defers w.memory) good.state good.extra good.shows used).shows) good.pending (ap (λ (l : List Effect). Unlinked b ∷ l) good.logged)
      (λ k. keeps_lives n k 0 good.state (put good.state.life b (IsUnlinked i)) good.state.carrier (Unlinked b ∷ good.state.log)
      (λ j c h. (put_row good.state b j c (IsUnlinked i) (rw used refl) h, refl)) refl)
      same_words (hands_put b (Cutting i) (IsUnlinked i) refl) (used_still (Unlinked b ∷ good.state.log) (λ s. refl)) good.room stays_same (λ t. refl) refl
      (unmoved_kept n good.state (unlinked good.state i b) refl refl refl refl refl refl refl (put_waits good.state.life b (IsUnlinked i) (ap is_in_wait used)) refl)

  -- a caller makes a block
  pub made_good : (i b : ℕ) (value : T) (words : ℕ) → IsFreeNumber w.memory b → b < 2 ^ 53 → ((d : ℕ) → defers value ≡ Some d → d < words)
      → StillGood defers n size good.state (with_effect (with_hand (record w { memory = after w.memory (Make value words) (Made (Ok b)) }) b (Making i)) (law.Made b))
  made_good i b value words is low enough =
      let one = made_one w.memory value words b is in
      let mem2 = after w.memory (Make value words) (Made (Ok b)) in
      let seen : view defers mem2 ≡ with_new (view defers w.memory) b (defers value) = view_made defers w.memory value words b mem2 one in
      let free = free_number n b (view defers w.memory) good.state good.extra good.shows (ap is_some one.was_free) in
      let moved = made_moves n i 0 good.state b (is_some (defers value)) good.inv free in
      let wrote = (λ (k : ℕ). made_written n k b (defers value) (view defers w.memory) good.state good.extra good.shows free (λ d. free_word w.memory b d one.was_free)
      (none_deferred n b good.state good.inv free)) in
      users_good mem2 (made good.state i b (is_some (defers value))) good.extra (with_at w.hand b (Making i)) (law.Made b ∷ w.log) moved.inv
      (subst (λ (g : View). Shows n g (made good.state i b (is_some (defers value))) good.extra) (sym seen) ((wrote i).shows)) good.pending (ap (λ (l : List Effect). law.Made b ∷ l) good.logged)
      (λ k. keeps_lives n k 0 good.state (put good.state.life b (IsOwned i)) (put good.state.carrier b (is_some (defers value))) (law.Made b ∷ good.state.log)
      (λ j c h. (put_row good.state b j c (IsOwned i) (rw free refl) h, carrier_kept j c (rw free refl) h)) refl)
      (λ k. subst (λ (g : View). KeepsWords k (view defers w.memory) good.state good.extra g good.extra) (sym seen) ((wrote k).keeps))
      (hands_put b (Making i) (IsOwned i) refl) (used_still (law.Made b ∷ good.state.log) (λ s. refl)) (room_made n good.state.head w.memory value words b good.room)
      (record {
        stocked = stocked_made defers w.memory value words b mem2 one low enough good.stocked;
        lists = subst (λ (g : View). ListsLast (view defers w.memory) g) (sym seen) (λ c d has live. list_kept c d (eqb c b) (eqb-true c b) one.was_free has);
        more = omega arith;
      }) (λ t. refl) refl (unmoved_kept n good.state (made good.state i b (is_some (defers value))) refl refl refl refl refl refl refl (put_waits good.state.life b (IsOwned i) (ap is_in_wait free)) refl)
    where
      carrier_kept : (j c : ℕ) → of_row j (good.state.life b) ≡ false → of_row j (good.state.life c) ≡ true → put good.state.carrier b (is_some (defers value)) c ≡ good.state.carrier c
      carrier_kept j c none h = at (eqb c b) (eqb-true c b)
        where
          at : (t : Bool) → (t ≡ true → c ≡ b) → cond t (is_some (defers value)) (good.state.carrier c) ≡ good.state.carrier c
          at true e = absurd (let f : of_row j (good.state.life c) ≡ false = subst (λ (a : ℕ). of_row j (good.state.life a) ≡ false) (sym (e refl)) none in cc)
          at false e = refl

      list_kept : (c d : ℕ) (t : Bool) → (t ≡ true → c ≡ b) → value_at w.memory b ≡ None → list_in defers (value_at w.memory c) ≡ Some d
          → cond t (defers value) (list_in defers (value_at w.memory c)) ≡ Some d
      list_kept c d true e none has = absurd (let gone : list_in defers (value_at w.memory c) ≡ None = ap (list_in defers) (ap (value_at w.memory) (e refl) ∙ none) in cc)
      list_kept c d false e none has = has

  -- what rows know where a block is gone that no row knows
  dropped_words : (i k b : ℕ) → of_dropper i (good.state.life b) ≡ true
      → KeepsWords k (view defers w.memory) good.state good.extra (without (view defers w.memory) b) (dropped_off good.extra b)
  dropped_words i k b owned = record {
    rows = λ j ne. record { hand = refl; pends = refl; popped = refl; lefts = refl; put_first = refl };
    batches = λ j z ne h. record { rest = refl; aimed = refl; behind = refl };
    nexts = λ j c ne h. elsewhere (view defers w.memory).nexts c (λ e. no_next j (good.state.life b) owned (subst (λ (a : ℕ). has_next j good.state.holder good.state.stage (good.state.life a) ≡ true) e h));
    firsts = λ j c ne h. elsewhere (view defers w.memory).firsts c (λ e. no_first j (good.state.life b) (good.extra.spot b) owned none (subst (λ (a : ℕ). has_first j (good.state.life a) (good.extra.spot a) ≡ true) e h));
    links = λ j c ne h. elsewhere (view defers w.memory).links c (λ e. no_entry j (good.extra.spot b) none (subst (λ (a : ℕ). has_entry j good.state.holder good.state.stage (good.extra.spot a) ≡ true) e h));
    spots = λ j c ne h. refl;
    owns = λ j c ne h. own_kept j c (λ e. no_own_of j (good.state.life b) owned (subst (λ (a : ℕ). has_own j (good.state.life a) ≡ true) e h));
  }
    where
      nowhere : (p : Spot) (l : Life) → of_dropper i l ≡ true → SpotLife p l → p ≡ Nowhere
      nowhere p l e h = grind arith

      none : good.extra.spot b ≡ Nowhere
      none = nowhere (good.extra.spot b) (good.state.life b) owned (good.shows.entries.spots b)

      elsewhere : (g : ℕ → ℕ) (c : ℕ) → (c ≡ b → ⊥) → put g b 0 c ≡ g c
      elsewhere g c ne = grind arith

      no_next : (j : ℕ) (l : Life) → of_dropper i l ≡ true → has_next j good.state.holder good.state.stage l ≡ true → ⊥
      no_next j l e h = grind arith

      no_first : (j : ℕ) (l : Life) (p : Spot) → of_dropper i l ≡ true → p ≡ Nowhere → has_first j l p ≡ true → ⊥
      no_first j l p e q h = grind arith

      no_entry : (j : ℕ) (p : Spot) → p ≡ Nowhere → has_entry j good.state.holder good.state.stage p ≡ true → ⊥
      no_entry j p q h = grind arith

      no_own_of : (j : ℕ) (l : Life) → of_dropper i l ≡ true → has_own j l ≡ true → ⊥
      no_own_of j l e h = grind arith

      own_kept : (j c : ℕ) → (c ≡ b → ⊥) → KeptOwn (view defers w.memory) (without (view defers w.memory) b) good.extra (dropped_off good.extra b) c
      own_kept j c ne = record {
        own = λ d has. by (eqb c b) (eqb-true c b) 0 ((view defers w.memory).own c d);
        lists = by (eqb c b) (eqb-true c b) None ((view defers w.memory).lists c);
        drained = by (eqb c b) (eqb-true c b) false (good.extra.drained c);
      }
        where
          by : {X : Type 0} (t : Bool) → (t ≡ true → c ≡ b) → (u v : X) → cond t u v ≡ v
          by true e u v = absurd (ne (e refl))
          by false e u v = refl

  -- a caller takes a block away that it has made, or that is left to it
  pub dropped_good : (i b : ℕ) → of_dropper i (good.state.life b) ≡ true → MayClear b w.log → IsSome (value_at w.memory b)
      → StillGood defers n size good.state (with_effect (with_hand (record w { memory = with_block w.memory b None }) b NoBlock) (Dropped b))
  dropped_good i b owned may some =
      let one = taken_one w.memory b some in
      let mem2 = with_block w.memory b None in
      let seen : view defers mem2 ≡ without (view defers w.memory) b = view_taken defers w.memory b mem2 one in
      let moved = dropped_moves n i 0 good.state b good.inv owned (subst (MayClear b) (sym good.logged) may) in
      users_good mem2 (dropped good.state b) (dropped_off good.extra b) (with_at w.hand b NoBlock) (Dropped b ∷ w.log) moved.inv
      (subst (λ (g : View). Shows n g (dropped good.state b) (dropped_off good.extra b)) (sym seen) ((dropped_written n i b (view defers w.memory) good.state good.extra good.inv good.shows owned).shows))
      good.pending (ap (λ (l : List Effect). Dropped b ∷ l) good.logged)
      (λ k. keeps_lives n k 0 good.state (put good.state.life b IsFree) good.state.carrier (Dropped b ∷ good.state.log)
      (λ j c h. (put_row good.state b j c IsFree (not_rows j (good.state.life b) owned) h, refl)) refl)
      (λ k. subst (λ (g : View). KeepsWords k (view defers w.memory) good.state good.extra g (dropped_off good.extra b)) (sym seen) (dropped_words i k b owned))
      (hands_put b NoBlock IsFree refl) (used_still (Dropped b ∷ good.state.log) (λ s. refl)) (room_taken_block n good.state.head w.memory b good.room)
      (record {
        stocked = stocked_taken defers w.memory b mem2 one good.stocked;
        lists = subst (λ (g : View). ListsLast (view defers w.memory) g) (sym seen) (λ c d has live. list_kept c d (eqb c b) live has);
        more = same_more;
      }) (λ t. refl) refl (unmoved_kept n good.state (dropped good.state b) refl refl refl refl refl refl refl (put_waits good.state.life b IsFree (not_waits (good.state.life b) owned)) refl)
    where
      not_rows : (j : ℕ) (l : Life) → of_dropper i l ≡ true → of_row j l ≡ false
      not_rows j l e = grind arith

      not_waits : (l : Life) → of_dropper i l ≡ true → is_in_wait l ≡ false
      not_waits l e = grind arith

      same_more : length w.memory.slots ≤ length w.memory.slots
      same_more = omega arith

      list_kept : (c d : ℕ) (t : Bool) → cond t false (is_some (value_at w.memory c)) ≡ true → list_in defers (value_at w.memory c) ≡ Some d
          → cond t None (list_in defers (value_at w.memory c)) ≡ Some d
      list_kept c d true live has = absurd (cc live)
      list_kept c d false live has = has
