-- The points at which a row takes its slot's open batch, gives it up again, and ends.
use Rattle.std.specs.Prelude.{if◌then◌else◌, ◌==◌, nat_lt, Option, IsSome, []}
use Rattle.std.proofs.Common.{◌≡◌, ℕ, ◌<◌, Bool, true, false, refl, arith, ◌∙◌, inl, inr, ap, sym, subst, eqb-true}
use Rattle.std.proofs.lemmas.Bool.{eqb-false}
use Rattle.seize_moves.specs.Given.SeizeWordsDeclared.at.At.TheVariants.{Slot}
use Rattle.seize_moves.specs.Given.SeizeWordsMem.{Mem, Took, value_at, word_at, with_word}
use Rattle.seize_moves.specs.Given.SeizeWordsPlan.{Steps, Ends, Now}
use Rattle.seize_moves.proofs.Given.SeizeWordsOneOwner.Operations.{loaded, stored, exchanged}
use Rattle.seize_moves.specs.Given.SeizeDeclared.states.TheConstants.{BATCH, HELD, ACTIVE}
use Rattle.seize_moves.specs.Given.SeizeDeclared.rows.settle.Settle.{Settle}
use Rattle.seize_moves.specs.Given.SeizeDeclared.rows.settle.Settling.TheVariants as at
use Rattle.seize_moves.specs.Given.SeizeDeclared.rows.settle.Settled.{Settled}
use Rattle.seize_moves.specs.Given.SeizeDeclared.rows.settle.Settled.TheVariants.{Goes, Waits}
use Rattle.seize_moves.specs.Given.SeizeSettle.{onward, with_batch, standing, seen, sees, taken_hold, holds, gives}
use Rattle.seize_moves.proofs.Moves.State.Ghost.{State, put, Stage, Open, is_never}
use Rattle.seize_moves.proofs.Moves.State.Rule.{Inv}
use Rattle.seize_moves.proofs.Moves.State.Moves.{held, gave}
use Rattle.seize_moves.proofs.Moves.Moves.Slots.{held_moves, gave_moves}
use Rattle.seize_moves.proofs.Memory.Words.Named.{link, wrote, words_of, word_found}
use Rattle.seize_moves.proofs.Memory.Words.Chains.{last_of}
use Rattle.seize_moves.proofs.Memory.Words.View.{view, view_batch}
use Rattle.seize_moves.proofs.Memory.Words.Shows.{Extra, Shows, EndIs, batch_word}
use Rattle.seize_moves.proofs.Memory.Written.Holds.{not_held, held_written, gave_written}
use Rattle.seize_rule.proofs.Points.Aside.{aside_same}
use Rattle.seize_rule.proofs.Points.Known.{Holding, open_blocks, MayHold, Retiring, Sees, Holds, Over, bare}
use Rattle.seize_rule.proofs.Points.Told.{Plain, flush_part, part_at, Told, Holds as HoldsIt, HoldsNone, Gives, onward_part}
use Rattle.seize_rule.proofs.Points.NothingLeft.{nothing_left, none_pending}
use Rattle.seize_rule.proofs.Points.Stepped.{Stepped, HasWords, quiet, Went, went_loaded, went_written}
use Rattle.seize_rule.proofs.Points.Onwards.{onward_fits, onward_slot}
use Rattle.seize_rule.proofs.Points.Retire.{none_open}

-- the row does not hold the batch: its last block may be anything
with_last : (n i : ℕ) (m : State) (x : Extra) (c : Settle) (w : ℕ) → Retiring n i m x (bare c) false → Retiring n i m x (bare (record c { last = w })) false
with_last n i m x c w r = record {
  rest = record {
    common = r.rest.common;
    popped = r.rest.popped;
    closing = r.rest.closing;
    put = r.rest.put;
    put_last = r.rest.put_last;
    batch = one c.held r.holds;
    tries = r.rest.tries;
  };
  holds = r.holds;
  none_left = r.none_left;
}
  where
    one : (t : Bool) → t ≡ false → MayHold t i m x (bare (record c { last = w }))
    one false h = tt
    one true h = absurd (cc h)

-- the slot's word of its batch is there
word_there : {T : Type 0} (defers : T → Option ℕ) (n : ℕ) (mem : Mem T) (m : State) (s : ℕ) → HasWords defers n mem m.head → is_never (m.head s) ≡ false
    → IsSome (word_at mem (Slot s BATCH))
word_there defers n mem m s w taken = w.slots s BATCH (omega arith) taken

-- where a row that holds its batch goes on with a flush, by whether there is none
abbrev flush_to : Settle → Bool → Settle
flush_to c z = if z then record c { flushing = false; stands = at.Gives } else record c { flushing = false; stands = at.Firsts 0 }

flush_onward : (c : Settle) → c.reclaiming ≡ 0 → c.pending ≡ 0 → c.flushing ≡ true → c.held ≡ true → onward c ≡ flush_to c (c.last == 0)
flush_onward c a b e h = one (c.reclaiming == 0) (c.pending == 0) c.flushing c.held (rw a refl) (rw b refl) e h
  where
    one : (p q f h : Bool) → p ≡ true → q ≡ true → f ≡ true → h ≡ true
        → (if p then (if q then (if f then (if h then (if f then flush_to c (c.last == 0) else standing c at.Pops) else standing c at.Sees) else (if nat_lt ACTIVE c.list then standing c at.Lists else (if c.held then standing c at.Gives else standing c at.Over))) else with_batch c) else standing c at.Nexts)
        ≡ flush_to c (c.last == 0)
    one p q f h a b d k = rw (a, b, d, k) refl

module _ {T : Type 0} (defers : T → Option ℕ) (n i : ℕ) (mem : Mem T) (m : State) (x : Extra) (c : Settle) where
  -- a look at the slot's word

  module _ (inv : Inv n m) (v : Shows n (view defers mem) m x) where
    seen_steps : (w : ℕ) (t : Bool) (mem2 : Mem T) (end : Settle × Settled T) → (w == HELD) ≡ t → Sees n i m x (bare c) → c.stands ≡ at.Sees → mem2 ≡ mem
        → Ends (value_at mem) (if t then Now (c, Waits) else Now (record c { last = w; stands = at.Holds }, Goes)) end → Went defers n i c (flush_part c.flushing) mem m x [] mem2 end
    seen_steps w true mem2 end q r stands same e =
        went_loaded defers n i c (flush_part c.flushing) mem m x [] mem2 c Waits end tt e same (quiet n i c (flush_part c.flushing) (view defers mem) m x c inv v refl (ap (part_at c.flushing) stands) (rw stands r))
    seen_steps w false mem2 end q r stands same e =
        went_loaded defers n i c (flush_part c.flushing) mem m x [] mem2 (record c { last = w; stands = at.Holds }) Goes end tt e same
        (quiet n i c (flush_part c.flushing) (view defers mem) m x (record c { last = w; stands = at.Holds }) inv v refl refl
        (record { retiring = with_last n i m x c w r.retiring; free = eqb-false w HELD q }))

    pub sees_steps : (mem2 : Mem T) (end : Settle × Settled T) → Sees n i m x (bare c) → c.stands ≡ at.Sees → Steps Took value_at mem (sees c) mem2 end
        → Went defers n i c (flush_part c.flushing) mem m x [] mem2 end
    sees_steps mem2 end r stands st =
        let d = loaded mem (seen c) (Slot c.slot BATCH) mem2 end st in
        seen_steps d.0 (d.0 == HELD) mem2 end refl r stands d.2 d.3

  -- the exchange that takes the batch

  -- the batch is the row's: nothing is begun in it
  now_held : (last : ℕ) → Inv n m → Shows n (view defers mem) m x → c.slot < n → m.holder c.slot ≡ 0 → words_of mem (Slot c.slot BATCH) ≡ last
      → Holding i (held m i c.slot) x (record c { last = last }) 0 0 []
  now_held last inv v l h word = record {
    holder = grind arith;
    last = grind (arith, v.linkage.batched c.slot l);
    behind = one (m.stage (m.open_batch c.slot)) (x.behind (m.open_batch c.slot)) (inv.batches.mine c.slot l) (v.linkage.ended (m.open_batch c.slot));
    seen = (inv.batches.rested c.slot l h).0;
    todo = (inv.batches.rested c.slot l h).1;
  }
    where
      one : (g : Stage) (e : ℕ) → g ≡ Open c.slot → EndIs m.holder e g → e ≡ 0
      one g e q k = grind arith

  -- no block is in a batch whose word is 0
  none_in : Inv n m → Shows n (view defers mem) m x → c.slot < n → m.holder c.slot ≡ 0 → words_of mem (Slot c.slot BATCH) ≡ c.last → c.last ≡ 0 → open_blocks m c ≡ []
  none_in inv v l h word none = none_open n i (view defers mem) m x c inv v l (sym word ∙ v.linkage.batched c.slot l ∙ one (m.holder c.slot) h) none
    where
      one : (k : ℕ) → k ≡ 0 → batch_word k (open_blocks m c) ≡ link (last_of (open_blocks m c))
      one k z = grind arith

  -- a flush of no batch is over
  told_held : Inv n m → Shows n (view defers mem) m x → Holds n i m x (bare c) → c.slot < n → m.holder c.slot ≡ 0 → words_of mem (Slot c.slot BATCH) ≡ c.last
      → (t : Bool) → c.flushing ≡ t → Told n i c (flush_part c.flushing) m (onward (record c { held = true })) (held m i c.slot)
  told_held inv v r l h word false e = HoldsIt refl (onward_part (record c { held = true }) e ∙ sym (ap flush_part e))
  told_held inv v r l h word true e =
      let q = r.retiring.rest in
      let k = q.tries e in
      subst (λ (d : Settle). Told n i c (flush_part c.flushing) m d (held m i c.slot)) (sym (flush_onward (record c { held = true }) k.2 k.0 e refl)) (one (c.last == 0) refl)
    where
      one : (z : Bool) → (c.last == 0) ≡ z → Told n i c (flush_part c.flushing) m (flush_to (record c { held = true }) z) (held m i c.slot)
      one true z =
          let q = r.retiring.rest in
          let k = q.tries e in
          HoldsNone refl (ap flush_part e) refl (nothing_left n i (view defers mem) m x v c.slot c.list c.pending c.reclaiming c.put_first q.common k.2 (q.put k.2))
          (none_pending n i (view defers mem) m x v c.slot c.list c.pending c.reclaiming c.put_first q.common q.popped k.0) (none_in inv v l h word (eqb-true c.last 0 z))
      one false z = HoldsIt refl (sym (ap flush_part e))

  held_stepped : Inv n m → Shows n (view defers mem) m x → Holds n i m x (bare c) → words_of mem (Slot c.slot BATCH) ≡ c.last
      → Stepped n i c (flush_part c.flushing) (view defers mem) m x (record (view defers mem) { batches = put (view defers mem).batches c.slot HELD }) [] (onward (record c { held = true }))
  held_stepped inv v r word =
      let l = r.retiring.rest.common.slot_lt in
      let h = not_held n c.slot (view defers mem) m x v l (λ e. r.free (cc (e, word))) in
      record {
        told = told_held inv v r l h word c.flushing refl;
        m2 = held m i c.slot;
        x2 = x;
        moved = held_moves n i c.slot m inv h;
        written = held_written n i c.slot (view defers mem) m x v l;
        pending = λ p. p;
        logged = refl;
        aside = aside_same m (held m i c.slot) refl refl;
        fits = onward_fits n i _ (held m i c.slot) x (record c { held = true })
            (record {
              common = record {
                slot_lt = l;
                taken = r.retiring.rest.common.taken;
                outside = record { section = r.retiring.rest.common.outside.section; defers = r.retiring.rest.common.outside.defers };
                hand = r.retiring.rest.common.hand;
                pends = r.retiring.rest.common.pends;
                lefts = r.retiring.rest.common.lefts;
                put_first = r.retiring.rest.common.put_first;
              };
              popped = r.retiring.rest.popped;
              closing = r.retiring.rest.closing;
              put = r.retiring.rest.put;
              put_last = r.retiring.rest.put_last;
              batch = now_held c.last inv v l h word;
              tries = r.retiring.rest.tries;
            })
            (λ ne. absurd (ne r.retiring.none_left));
        slot_is = onward_slot (record c { held = true });
      }

  pub holds_steps : (mem2 : Mem T) (end : Settle × Settled T) → HasWords defers n mem m.head → Inv n m → Shows n (view defers mem) m x → Holds n i m x (bare c)
      → Steps Took value_at mem (holds c) mem2 end → Went defers n i c (flush_part c.flushing) mem m x [] mem2 end
  holds_steps mem2 end w inv v r st = elim (exchanged mem (taken_hold c) (Slot c.slot BATCH) c.last HELD mem2 end st) as (λ _. Went defers n i c (flush_part c.flushing) mem m x [] mem2 end) [
    | inl d ↦ went_written defers n i c (flush_part c.flushing) mem m x [] mem2 (Slot c.slot BATCH) HELD _ (onward (record c { held = true })) Goes end tt d.3 d.2
        (view_batch defers mem c.slot HELD (with_word mem (Slot c.slot BATCH) HELD) (wrote mem (Slot c.slot BATCH) HELD (word_there defers n mem m c.slot w r.retiring.rest.common.taken)))
        (held_stepped inv v r (word_found mem (Slot c.slot BATCH) d.0 d.1.0 ∙ d.1.1))
    | inr d ↦ went_loaded defers n i c (flush_part c.flushing) mem m x [] mem2 (record c { last = 0; stands = at.Sees }) Goes end tt d.3 d.2
        (quiet n i c (flush_part c.flushing) (view defers mem) m x (record c { last = 0; stands = at.Sees }) inv v refl refl (record { retiring = with_last n i m x c 0 r.retiring }))
  ]

  -- the store that gives the batch up

  holding_of : Over n i m x (bare c) true → Holding i m x (bare c) 0 0 []
  holding_of r = one c.held r.holds r.rest.batch
    where
      one : (t : Bool) → t ≡ true → MayHold t i m x (bare c) → Holding i m x (bare c) 0 0 []
      one true h b = b
      one false h b = absurd (cc h)

  gave_stepped : Inv n m → Shows n (view defers mem) m x → Over n i m x (bare c) true
      → Stepped n i c Plain (view defers mem) m x (record (view defers mem) { batches = put (view defers mem).batches c.slot c.last }) [] (record c { held = false; stands = at.Over })
  gave_stepped inv v r =
      let l = r.rest.common.slot_lt in
      let b = holding_of r in
      record {
        told = Gives refl refl refl;
        m2 = gave m c.slot;
        x2 = x;
        moved = gave_moves n i c.slot m inv b.holder b.seen b.todo;
        written = rw (b.last) (gave_written n i c.slot (view defers mem) m x v l (inv.batches.mine c.slot l) (inv.batches.sole c.slot) b.behind);
        pending = λ p. p;
        logged = refl;
        aside = aside_same m (gave m c.slot) refl refl;
        fits = record {
          rest = record {
            common = record {
              slot_lt = l;
              taken = r.rest.common.taken;
              outside = record { section = r.rest.common.outside.section; defers = r.rest.common.outside.defers };
              hand = r.rest.common.hand;
              pends = r.rest.common.pends;
              lefts = r.rest.common.lefts;
              put_first = r.rest.common.put_first;
            };
            popped = r.rest.popped;
            closing = r.rest.closing;
            put = r.rest.put;
            put_last = r.rest.put_last;
            batch = tt;
            tries = r.rest.tries;
          };
          once = r.once;
          none_left = r.none_left;
          none_pending = r.none_pending;
          none_listed = r.none_listed;
          holds = refl;
        };
        slot_is = refl;
      }

  pub gives_steps : (mem2 : Mem T) (end : Settle × Settled T) → HasWords defers n mem m.head → Inv n m → Shows n (view defers mem) m x → Over n i m x (bare c) true
      → Steps Took value_at mem (gives c) mem2 end → Went defers n i c Plain mem m x [] mem2 end
  gives_steps mem2 end w inv v r st =
      let d = stored {R = Settle × Settled T} mem (λ out. Now (record c { held = false; stands = at.Over }, Goes)) (Slot c.slot BATCH) c.last mem2 end st in
      went_written defers n i c Plain mem m x [] mem2 (Slot c.slot BATCH) c.last _ (record c { held = false; stands = at.Over }) Goes end tt d.1 d.0
      (view_batch defers mem c.slot c.last (with_word mem (Slot c.slot BATCH) c.last) (wrote mem (Slot c.slot BATCH) c.last (word_there defers n mem m c.slot w r.rest.common.taken)))
      (gave_stepped inv v r)
  -- the end: the row has nothing left in its hands
