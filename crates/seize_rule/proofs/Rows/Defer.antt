-- The program points by which a block goes in front of another block's list.
use Rattle.std.specs.Prelude.{Option, Some, IsSome, ◌/◌}
use Rattle.std.proofs.Common.{◌≡◌, ℕ, true, refl, arith, ap, sym, subst, ◌∙◌, inl, inr}
use Rattle.std.proofs.lemmas.Bool.{eq-eqb}
use Rattle.seize_moves.specs.Given.SeizeWordsDeclared.at.At.{At}
use Rattle.seize_moves.specs.Given.SeizeWordsDeclared.at.At.TheVariants.{Entry, Word}
use Rattle.seize_moves.specs.Given.SeizeWordsOp.{Load, Store, Exchange}
use Rattle.seize_moves.specs.Given.SeizeWordsMem.{Mem, Took, value_at, word_at, with_word}
use Rattle.seize_moves.specs.Given.SeizeWordsPlan.{Steps, Do}
use Rattle.seize_moves.proofs.Given.SeizeWordsOneOwner.Operations.{loaded, stored, exchanged}
use Rattle.seize_moves.specs.Given.SeizeDeclared.states.TheConstants.{NEXT}
use Rattle.seize_moves.specs.Given.SeizeDeclared.advance.Advance.{Advance}
use Rattle.seize_moves.specs.Given.SeizeDeclared.advance.Advance.TheVariants.{Goes}
use Rattle.seize_moves.specs.Given.SeizeDeclared.rows.defer.Defer.{Defer}
use Rattle.seize_moves.specs.Given.SeizeDeclared.rows.defer.Deferring.{Deferring}
use Rattle.seize_moves.specs.Given.SeizeDeclared.rows.defer.Deferring.TheVariants as at
use Rattle.seize_moves.specs.Given.SeizeDefer.{standing, goes, head_read, after_push}
use Rattle.seize_moves.proofs.Moves.State.Ghost.{put, Life, IsDeferring, IsDeferred, State, IsLeft, can_carry}
use Rattle.seize_moves.proofs.Moves.State.Rule.{Inv, IsGuarded, Moved, Pending}
use Rattle.seize_moves.proofs.Moves.State.Together.{stays}
use Rattle.seize_moves.proofs.Moves.State.Moves.{deferred_to}
use Rattle.seize_moves.proofs.Moves.Moves.Blocks.{deferred_to_moves}
use Rattle.seize_moves.proofs.Memory.Words.Named.{link, word_found, wrote}
use Rattle.seize_moves.proofs.Memory.Words.View.{View, put_own, view, view_next, view_own}
use Rattle.seize_moves.proofs.Memory.Words.Shows.{Extra, Shows, Written, has_next, has_own, keeps_like}
use Rattle.seize_moves.proofs.Memory.Words.Apart.{boxed_none, unlisted_deferring, put_here}
use Rattle.seize_moves.proofs.Memory.Written.Retire.{next_written}
use Rattle.seize_moves.proofs.Memory.Written.Own.{deferred_to_written}
use Rattle.seize_moves.specs.Given.SeizeWorld.{Hand, NoBlock, Making, InUse, Parting, Cutting, Handed, LeftTo}
use Rattle.seize_rule.proofs.Points.Aside.{AllHands, HandFits}
use Rattle.seize_rule.proofs.Rows.Known.{OnWay, Linked_to, FitsDefer}
use Rattle.seize_rule.proofs.Rows.Told.{IsOnWay}
use Rattle.seize_rule.proofs.Points.Retire.{of_link}

-- a block on its way, or on the list, is the collector's
still_handed : (hand : Hand) (i s t b c : ℕ) (life : ℕ → Life) → life b ≡ IsDeferring i s t → HandFits hand (life c) → HandFits hand (put life b (IsDeferred t) c)
still_handed NoBlock i s t b c life is h = grind arith
still_handed (Making j) i s t b c life is h = grind arith
still_handed (InUse o) i s t b c life is h = grind arith
still_handed (Parting j) i s t b c life is h = grind arith
still_handed (Cutting j) i s t b c life is h = grind arith
still_handed (LeftTo j) i s t b c life is h = grind arith
still_handed Handed i s t b c life is h = grind arith

-- from c: it is on its way still, or has reached the list
pub data DeferTold (i : ℕ) (c : Defer) (m : State) (c2 : Defer) (m2 : State) : Type 0 where
  Goes_on : (p : Deferring) → c2 ≡ standing c p → IsOnWay p → m2 ≡ m → DeferTold i c m c2 m2
  Reaches : (b t d : ℕ) → c2 ≡ standing c at.Over → c.block ≡ link b → c.table_word ≡ Word t d → m2 ≡ deferred_to m i b t → DeferTold i c m c2 m2

-- what a step of a deferring row comes to: heads of slots and the log are as they were, and who has each block
pub record Deferring_went (n i s : ℕ) (f : View) (m : State) (x : Extra) (g : View) (c0 c : Defer) : Type 0 where
  pub m2 : State
  pub x2 : Extra
  pub moved : Moved n i s m m2
  pub written : Written n i f m x g m2 x2
  pub pending : Pending m.stage m.counter → Pending m2.stage m2.counter
  pub logged : m2.log ≡ m.log
  pub heads : m2.head ≡ m.head
  pub hands : (hand : ℕ → Hand) → AllHands hand m.life → AllHands hand m2.life
  pub fits : FitsDefer n i g m2 x2 s c.block c.table_word c.stands
  pub told : DeferTold i c0 m c m2

module _ {T : Type 0} (defers : T → Option ℕ) (n i s : ℕ) (mem mem2 : Mem T) (m : State) (x : Extra) (c : Defer) (end : Defer × Advance Unit)
    (inv : Inv n m) (v : Shows n (view defers mem) m x) where
  -- the row goes on
  abbrev pub DeferWent : Type 0
  DeferWent = Deferring_went n i s (view defers mem) m x (view defers mem2) c end.0 × (end.1 ≡ Goes)

  goes_on : (stands : Deferring) → end ≡ (standing c stands, Goes) → end.1 ≡ Goes
  goes_on stands ends = ap (λ (q : Defer × Advance Unit). q.1) ends

  -- nothing was written
  still : (stands : Deferring) → IsOnWay stands → FitsDefer n i (view defers mem) m x s c.block c.table_word stands → mem2 ≡ mem → end ≡ (standing c stands, Goes)
      → DeferWent
  still stands on fits same ends = (
    subst (λ (q : Mem T). Deferring_went n i s (view defers mem) m x (view defers q) c end.0) (sym same)
        (subst (λ (d : Defer × Advance Unit). Deferring_went n i s (view defers mem) m x (view defers mem) c d.0) (sym ends)
        (record {
          m2 = m;
          x2 = x;
          moved = stays n i s m inv;
          written = record { shows = v; keeps = keeps_like i (view defers mem) m x (view defers mem) refl refl refl refl refl };
          pending = λ p. p;
          logged = refl;
          heads = refl;
          hands = λ hand a. a;
          fits = fits;
          told = Goes_on stands refl on refl;
        })),
    goes_on stands ends,
  )

  pub defer_reads : OnWay n i (view defers mem) m x s c.block c.table_word → Steps Took value_at mem (Do (Load c.table_word) (head_read c)) mem2 end
      → DeferWent
  defer_reads r st = let l = loaded mem (head_read c) c.table_word mem2 end st in still (at.Links l.0) tt r l.2 l.3

  pub defer_links : (head : ℕ) → OnWay n i (view defers mem) m x s c.block c.table_word → IsSome (word_at mem (Entry (c.block / 2048) NEXT))
      → Steps Took value_at mem (Do (Store (Entry (c.block / 2048) NEXT) head) (λ out. goes c (at.Pushes head))) mem2 end
      → DeferWent
  defer_links head r there st =
      let l = stored mem (λ out. goes c (at.Pushes head)) (Entry (c.block / 2048) NEXT) head mem2 end st in
      let a = of_link c.block r.b r.block_is in
      let e : mem2 ≡ with_word mem (Entry r.b NEXT) head = l.0 ∙ ap (λ u. with_word mem (Entry u NEXT) head) a in
      let seen = view_next defers mem r.b head (with_word mem (Entry r.b NEXT) head) (wrote mem (Entry r.b NEXT) head (subst (λ (u : ℕ). IsSome (word_at mem (Entry u NEXT))) a there)) in (
        subst (λ (q : View). Deferring_went n i s (view defers mem) m x q c end.0) (sym (ap (view defers) e ∙ seen))
            (subst (λ (d : Defer × Advance Unit). Deferring_went n i s (view defers mem) m x (record (view defers mem) { nexts = put (view defers mem).nexts r.b head }) c d.0) (sym l.1)
            (record {
              m2 = m;
              x2 = x;
              moved = stays n i s m inv;
              written = next_written n i r.b head (view defers mem) m x v (rw r.life refl)
                  (unlisted_deferring m.stage m.blocks m.left m.pending m.puts m.deferred m.carrier m.life x.popped i s r.t r.b inv.places r.life)
                  (λ y live. boxed_none (m.stage y) (m.blocks y) r.b y (m.life r.b) (inv.places.boxed y r.b) (grind (arith, r.life)) live)
                  (λ j ne h. other j ne (m.life r.b) r.life h);
              pending = λ p. p;
              logged = refl;
              heads = refl;
              hands = λ hand a. a;
              fits = record {
                on = record { empty = r.empty; slot_lt = r.slot_lt; b = r.b; t = r.t; d = r.d; block_is = r.block_is; some = r.some; life = r.life; at_is = r.at_is; list = r.list };
                next = put_here (view defers mem).nexts r.b head;
              };
              told = Goes_on (at.Pushes head) refl tt refl;
            })),
        goes_on (at.Pushes head) l.1,
      )
    where
      other : (j : ℕ) → (j ≡ i → ⊥) → (l : Life) → l ≡ IsDeferring i s r.t → has_next j m.holder m.stage l ≡ true → ⊥
      other j ne l e h = grind arith

  -- the block whose list it is may carry
  carrying : (b t : ℕ) → m.life b ≡ IsDeferring i s t → can_carry (m.life t) ≡ true
  carrying b t is = (inv.places.carries b t (rw is (eq-eqb t t refl))).2

  -- the block whose list it is lives on within the section, and is no row's own
  no_one_owns : (b t : ℕ) → m.life b ≡ IsDeferring i s t → (j : ℕ) → has_own j (m.life t) ≡ true → ⊥
  no_one_owns b t is j own = one (m.life t) (inv.logged.guarded s t (inv.logged.on_way b i s t is).2) (carrying b t is) own
    where
      one : (l : Life) → IsGuarded l m.debt s → can_carry l ≡ true → has_own j l ≡ true → ⊥
      one l g c h = grind (arith, g, c, h)

  -- nor has it ended
  not_left : (b t : ℕ) → m.life b ≡ IsDeferring i s t → (j : ℕ) → m.life t ≡ IsLeft j → ⊥
  not_left b t is j left = one (m.life t) (carrying b t is) left
    where
      one : (l : Life) → can_carry l ≡ true → l ≡ IsLeft j → ⊥
      one l c e = grind (arith, c, e)

  push_done : (head w : ℕ) → Linked_to n i (view defers mem) m x s c.block c.table_word head → word_at mem c.table_word ≡ Some w → w ≡ head
      → mem2 ≡ with_word mem c.table_word c.block → end ≡ (standing c at.Over, Goes) → DeferWent
  push_done head w r found same e ends =
      let o = r.on in
      let here : word_at mem (Word o.t o.d) ≡ Some w = subst (λ (a : At). word_at mem a ≡ Some w) o.at_is found in
      let first : (view defers mem).own o.t o.d ≡ head = word_found mem (Word o.t o.d) w here ∙ same in
      let e2 : mem2 ≡ with_word mem (Word o.t o.d) (link o.b) = e ∙ ap (λ a. with_word mem a c.block) o.at_is ∙ ap (λ a. with_word mem (Word o.t o.d) a) o.block_is in
      let seen = view_own defers mem o.t o.d (link o.b) (with_word mem (Word o.t o.d) (link o.b)) (wrote mem (Word o.t o.d) (link o.b) (rw here refl)) in (
        subst (λ (q : View). Deferring_went n i s (view defers mem) m x q c end.0) (sym (ap (view defers) e2 ∙ seen))
            (subst (λ (d : Defer × Advance Unit). Deferring_went n i s (view defers mem) m x (record (view defers mem) { own = put_own (view defers mem).own o.t o.d (link o.b) }) c d.0) (sym ends)
            (record {
              m2 = deferred_to m i o.b o.t;
              x2 = x;
              moved = deferred_to_moves n i s m o.b o.t inv o.life;
              written = deferred_to_written n i s o.b o.t o.d (view defers mem) m x v o.life o.list (no_one_owns o.b o.t o.life) (not_left o.b o.t o.life) (r.next ∙ sym first) o.some;
              pending = λ p. p;
              logged = refl;
              heads = refl;
              hands = λ hand a q. still_handed (hand q) i s o.t o.b q m.life o.life (a q);
              fits = record {
                empty = record {
                  loose = o.empty.loose;
                  left = o.empty.left;
                  pending = o.empty.pending;
                  puts = o.empty.puts;
                  closing = o.empty.closing;
                  hand = o.empty.hand;
                  pends = o.empty.pends;
                  lefts = o.empty.lefts;
                  put_first = o.empty.put_first;
                  popped = o.empty.popped;
                };
                slot_lt = o.slot_lt;
                section = (inv.logged.on_way o.b i s o.t o.life).0;
                none = put_here m.defers i 0;
              };
              told = Reaches o.b o.t o.d refl o.block_is o.at_is refl;
            })),
        goes_on at.Over ends,
      )

  -- a list that has changed is linked anew
  pub defer_pushes : (head : ℕ) → Linked_to n i (view defers mem) m x s c.block c.table_word head → Steps Took value_at mem (Do (Exchange c.table_word head c.block) (after_push c)) mem2 end
      → DeferWent
  defer_pushes head r st =
      elim (exchanged mem (after_push c) c.table_word head c.block mem2 end st) as (λ _. DeferWent) [
        | inl a ↦ push_done head a.0 r a.1.0 a.1.1 a.2 a.3
        | inr b ↦ still (at.Links b.0) tt r.on b.2 b.3
      ]
