-- The points at which a row reclaims a block, and retires what was deferred until it.
use Rattle.std.specs.Prelude.{if◌then◌else◌, ◌==◌, ◌/◌, Option, Some, None, IsSome, List, [], ◌∷◌}
use Rattle.std.proofs.Common.{◌≡◌, ℕ, ◌<◌, Bool, true, false, cond, eqb, refl, arith, eqb-true, sym, subst, ◌∙◌, ap}
use Rattle.std.proofs.lemmas.Bool.{eqb-false}
use Rattle.seize_moves.specs.Given.SeizeWordsDeclared.at.At.TheVariants.{Entry}
use Rattle.seize_moves.specs.Given.SeizeWordsMem.{Mem, Took, value_at, word_at, with_word, with_block}
use Rattle.seize_moves.specs.Given.SeizeWordsPlan.{Steps, Now}
use Rattle.seize_moves.proofs.Given.SeizeWordsOneOwner.Operations.{stored, taken as taken_value}
use Rattle.seize_moves.specs.Given.SeizeDeclared.states.TheConstants.{NEXT}
use Rattle.seize_moves.specs.Given.SeizeDeclared.rows.settle.Settle.{Settle}
use Rattle.seize_moves.specs.Given.SeizeDeclared.rows.settle.Settling.TheVariants as at
use Rattle.seize_moves.specs.Given.SeizeDeclared.rows.settle.Settled.{Settled}
use Rattle.seize_moves.specs.Given.SeizeDeclared.rows.settle.Settled.TheVariants.{Goes, Gave}
use Rattle.seize_moves.specs.Given.SeizeLaw.{Taken}
use Rattle.seize_moves.specs.Given.SeizeSettle.{onward, with_put, without_block, joins, given_back, takes, puts}
use Rattle.seize_moves.specs.Waiting.Held.{count}
use Rattle.seize_moves.proofs.Moves.State.Ghost.{State, put}
use Rattle.seize_moves.proofs.Moves.State.Rule.{Inv, Moved}
use Rattle.seize_moves.proofs.Moves.State.Together.{then as moved_then}
use Rattle.seize_moves.proofs.Moves.State.Moves.{drained, joined, taken}
use Rattle.seize_moves.proofs.Moves.Moves.Takes.{first_doomed, drained_moves, joined_moves, taken_moves}
use Rattle.seize_moves.proofs.Memory.Words.Named.{link, link-block, wrote, taken_one}
use Rattle.seize_moves.proofs.Memory.Words.Chains.{first_or, last_of, last_from, chain_nil, chain_cons, chain_begin, count_last}
use Rattle.seize_moves.proofs.Memory.Words.View.{View, view, view_next, view_taken}
use Rattle.seize_moves.proofs.Memory.Words.Shows.{Extra, Shows, Written, KeepsWords}
use Rattle.seize_moves.proofs.Memory.Written.Puts.{drained_too, drained_more_written}
use Rattle.seize_moves.proofs.Memory.Written.Joins.{joined_to, joined_alone_written, joined_written}
use Rattle.seize_moves.proofs.Memory.Written.Takes.{without, taken_off, taken_written}
use Rattle.seize_rule.proofs.Points.Aside.{aside_same, aside_then, aside_drained, aside_taken}
use Rattle.seize_rule.proofs.Points.Known.{AllFresh, Rest, Joins, Takes, Puts, bare}
use Rattle.seize_rule.proofs.Points.Told.{Plain, Draining, onward_part}
use Rattle.seize_rule.proofs.Points.Told as tells
use Rattle.seize_rule.proofs.Points.NothingLeft.{none_pending}
use Rattle.seize_rule.proofs.Points.Stepped.{Stepped, HasWords, Went, went, went_written}
use Rattle.seize_rule.proofs.Points.Onwards.{may_hold_on, onward_fits, onward_slot}
use Rattle.seize_rule.proofs.Points.Deferred.{next_left, left_lives, left_once, puts_some, put_lives, list_read, fresh_on}

module _ {T : Type 0} (defers : T → Option ℕ) (n i : ℕ) (mem : Mem T) (m : State) (x : Extra) (c : Settle) (inv : Inv n m) (v : Shows n (view defers mem) m x) where
  -- where the last of what was put is linked to more

  last_at : (b : ℕ) (l : List ℕ) → m.puts i ≡ b ∷ l → c.put_last ≡ link (last_of (m.puts i)) → c.put_last / 2048 ≡ last_from b l
  last_at b l is e = ap (λ w. w / 2048) (e ∙ ap (λ k. link (last_of k)) is) ∙ link-block (last_from b l)

  last_there : (b : ℕ) (l : List ℕ) → HasWords defers n mem m.head → m.puts i ≡ b ∷ l → c.put_last ≡ link (last_of (m.puts i)) → IsSome (word_at mem (Entry (c.put_last / 2048) NEXT))
  last_there b l w is e =
      let some : 0 < count (last_from b l) (m.puts i) = rw is (count_last b l) in
      let live = put_lives n i (view defers mem) m x (last_from b l) inv v some in
      rw (last_at b l is e) (w.entries (last_from b l) NEXT (omega arith) live)

  -- what is seen after that
  abbrev with_more : ℕ → ℕ → View
  with_more b w = record (view defers mem) { nexts = put (view defers mem).nexts b w }

  seen_more : (b : ℕ) (l : List ℕ) (w : ℕ) → IsSome (word_at mem (Entry (c.put_last / 2048) NEXT)) → m.puts i ≡ b ∷ l → c.put_last ≡ link (last_of (m.puts i))
      → view defers (with_word mem (Entry (c.put_last / 2048) NEXT) w) ≡ with_more (last_from b l) w
  seen_more b l w some is e =
      view_next defers mem (c.put_last / 2048) w (with_word mem (Entry (c.put_last / 2048) NEXT) w) (wrote mem (Entry (c.put_last / 2048) NEXT) w some)
      ∙ ap (λ k. with_more k w) (last_at b l is e)

  module _ (next more : ℕ) (r : Joins n i (view defers mem) m x (bare c) next more) where
    put_before : (b : ℕ) × (l : List ℕ) × (m.puts i ≡ b ∷ l)
    put_before = puts_some n i (view defers mem) m x c.put_first v r.drains.backs.common.put_first r.some

    joined_on : (a d : ℕ) (l behind : List ℕ) → m.puts i ≡ a ∷ l → m.deferred r.drains.b ≡ d ∷ behind → (view defers mem).own r.drains.b r.word ≡ more
        → Stepped n i c Plain (view defers mem) m x (with_more (last_from a l) ((view defers mem).own r.drains.b r.word)) [] (record c { put_last = more; stands = at.Tails next })
    joined_on a d l behind is list word =
        let q = r.drains in
        let life = first_doomed n i m q.b q.bs inv q.backs.left in
        let once = left_once n i (view defers mem) m x q.b q.bs inv q.backs.left in
        record {
          m2 = drained m i q.b;
          x2 = drained_too x q.b;
          moved = drained_moves n i c.slot m q.b inv life;
          written = drained_more_written n i q.b r.word a l (view defers mem) m x inv v life q.lists q.drained is;
          pending = λ p. p;
          logged = refl;
          aside = aside_drained m i q.b;
          fits = record {
            b = q.b;
            bs = q.bs;
            backs = record {
              common = record {
                slot_lt = q.backs.common.slot_lt;
                taken = q.backs.common.taken;
                outside = record { section = q.backs.common.outside.section; defers = q.backs.common.outside.defers };
                hand = q.backs.common.hand;
                pends = q.backs.common.pends;
                lefts = q.backs.common.lefts;
                put_first = q.backs.common.put_first;
              };
              popped = q.backs.popped;
              closing = q.backs.closing;
              batch = may_hold_on i m x c c.held (drained m i q.b) (drained_too x q.b) (record c { put_last = more }) refl refl refl refl refl refl refl refl q.backs.batch;
              once = q.backs.once;
              left = q.backs.left;
              next_is = q.backs.next_is;
              fresh = λ k in_bs. fresh_on x.drained q.b q.bs k once in_bs (q.backs.fresh k in_bs);
            };
            none = grind arith;
            before = m.puts i;
            d = d;
            behind = behind;
            puts = grind (arith, list);
            put_last = r.more_is ∙ ap (first_or 0) list;
          };
          slot_is = refl;
          told = tells.Drains q.b q.bs q.backs.left refl refl refl;
        }

    pub joins_steps : (mem2 : Mem T) (end : Settle × Settled T) → HasWords defers n mem m.head → Steps Took value_at mem (joins c next more) mem2 end
        → Went defers n i c Plain mem m x [] mem2 end
    joins_steps mem2 end w st =
        let d = stored {R = Settle × Settled T} mem (λ out. Now (record c { put_last = more; stands = at.Tails next }, Goes)) (Entry (c.put_last / 2048) NEXT) more mem2 end st in
        let h = put_before in
        let q = r.drains in
        let f = view defers mem in
        let chain = list_read n i f m x q.b r.word v q.lists q.drained in
        let word : f.own q.b r.word ≡ more = chain_begin 0 f.nexts (f.own q.b r.word) (m.deferred q.b) chain ∙ sym r.more_is in
        let k = chain_cons 0 f.nexts (f.own q.b r.word) (m.deferred q.b) (λ e. r.more_some (sym word ∙ e)) chain in
        went_written defers n i c Plain mem m x [] mem2 (Entry (c.put_last / 2048) NEXT) more (with_more (last_from h.0 h.1) more) (record c { put_last = more; stands = at.Tails next }) Goes end tt d.1 d.0
        (seen_more h.0 h.1 more (last_there h.0 h.1 w h.2 q.put_last) h.2 q.put_last)
        (subst (λ (u : ℕ). Stepped n i c Plain f m x (with_more (last_from h.0 h.1) u) [] (record c { put_last = more; stands = at.Tails next })) word
        (joined_on h.0 k.0 h.1 k.1 h.2 k.2 word))

-- what was put is to be retired first
puts_rest : (n i : ℕ) (m : State) (x : Extra) (c : Settle) → Puts n i m x (bare c) → Rest n i (joined m i) (joined_to x i) (bare (record c { pending = c.put_first; put_first = 0; put_last = 0 }))
puts_rest n i m x c r = record {
  common = record {
    slot_lt = r.common.slot_lt;
    taken = r.common.taken;
    outside = record { section = r.common.outside.section; defers = r.common.outside.defers };
    hand = r.common.hand;
    pends = grind (arith, r.common.put_first);
    lefts = r.common.lefts;
    put_first = grind arith;
  };
  popped = r.popped;
  closing = r.closing;
  put = λ e. refl;
  put_last = none_put (m.puts) i;
  batch = may_hold_on i m x c c.held (joined m i) (joined_to x i) (record c { pending = c.put_first; put_first = 0; put_last = 0 }) refl refl refl refl refl refl refl refl r.batch;
  tries = λ e. absurd (cc (e, r.once));
}
  where
    none_put : (f : ℕ → List ℕ) (k : ℕ) → 0 ≡ link (last_of (put f k [] k))
    none_put f k = grind arith

-- the rows' words of lists are changed beside, for this row alone
keeps_joined : (i : ℕ) (f : View) (m : State) (x : Extra) (g : View) (y : Extra) → KeepsWords i f m x g y → KeepsWords i f m x g (joined_to y i)
keeps_joined i f m x g y a = record {
  rows = λ j ne. let p = a.rows j ne in record {
    hand = p.hand;
    pends = grind (arith, p.pends);
    popped = p.popped;
    lefts = p.lefts;
    put_first = grind (arith, p.put_first);
  };
  batches = λ j b ne k. let p = a.batches j b ne k in record { rest = p.rest; aimed = p.aimed; behind = p.behind };
  nexts = a.nexts;
  firsts = a.firsts;
  links = a.links;
  spots = a.spots;
  owns = λ j b ne k. let p = a.owns j b ne k in record { own = p.own; lists = p.lists; drained = p.drained };
}

module _ {T : Type 0} (defers : T → Option ℕ) (n i : ℕ) (mem : Mem T) (m : State) (x : Extra) (c : Settle) (inv : Inv n m) (v : Shows n (view defers mem) m x) where
  -- what a batch had put is linked to the rest

  module _ (r : Puts n i m x (bare c)) where
    first_put : (b : ℕ) × (l : List ℕ) × (m.puts i ≡ b ∷ l)
    first_put = puts_some n i (view defers mem) m x c.put_first v r.common.put_first r.some

    no_left : m.left i ≡ []
    no_left = chain_nil 0 (view defers mem).nexts (x.lefts i) (m.left i) (omega arith) (r.common.lefts ∙ r.none_left) (v.lists.lefted i)

    put_stepped : (b : ℕ) (l : List ℕ) → m.puts i ≡ b ∷ l → Stepped n i c Plain (view defers mem) m x (with_more defers n i mem m x c inv v (last_from b l) (x.pends i)) [] (with_put c)
    put_stepped b l is = record {
      m2 = joined m i;
      x2 = joined_to x i;
      moved = joined_moves n i c.slot m inv;
      written = joined_written n i b l (view defers mem) m x inv v is r.popped;
      pending = λ p. p;
      logged = refl;
      aside = aside_same m (joined m i) refl refl;
      fits = onward_fits n i _ (joined m i) (joined_to x i) (record c { pending = c.put_first; put_first = 0; put_last = 0 }) (puts_rest n i m x c r) (λ ne. absurd (ne r.none_left));
      slot_is = onward_slot (record c { pending = c.put_first; put_first = 0; put_last = 0 });
      told = tells.Joins no_left refl refl (onward_part (record c { pending = c.put_first; put_first = 0; put_last = 0 }) r.once);
    }

    pub puts_steps : (mem2 : Mem T) (end : Settle × Settled T) → HasWords defers n mem m.head → Steps Took value_at mem (puts c) mem2 end → Went defers n i c Plain mem m x [] mem2 end
    puts_steps mem2 end w st =
        let d = stored {R = Settle × Settled T} mem (λ out. Now (with_put c, Goes)) (Entry (c.put_last / 2048) NEXT) c.pending mem2 end st in
        let h = first_put in
        went_written defers n i c Plain mem m x [] mem2 (Entry (c.put_last / 2048) NEXT) c.pending (with_more defers n i mem m x c inv v (last_from h.0 h.1) c.pending) (with_put c) Goes end tt d.1 d.0
        (seen_more defers n i mem m x c inv v h.0 h.1 c.pending (last_there defers n i mem m x c inv v h.0 h.1 w h.2 r.put_last) h.2 r.put_last)
        (subst (λ (u : ℕ). Stepped n i c Plain (view defers mem) m x (with_more defers n i mem m x c inv v (last_from h.0 h.1) u) [] (with_put c)) r.common.pends (put_stepped h.0 h.1 h.2))

  -- a block is reclaimed

  module _ (next : ℕ) (r : Takes n i m x (bare c) next) where
    abbrev seen_off : View
    seen_off = without (view defers mem) r.b

    abbrev state_off : State
    state_off = taken m i r.b r.bs

    abbrev extra_off : Extra
    extra_off = taken_off (view defers mem) x i r.b

    first_left : (x.lefts i ≡ link r.b) × ((view defers mem).nexts r.b ≡ first_or 0 r.bs)
    first_left = next_left n i (view defers mem) m x r.b r.bs v r.backs.left

    taken_at : c.reclaiming / 2048 ≡ r.b
    taken_at = ap (λ w. w / 2048) (sym r.backs.common.lefts ∙ first_left.0) ∙ link-block r.b

    value_there : IsSome (value_at mem (c.reclaiming / 2048))
    value_there = rw taken_at (left_lives n i (view defers mem) m x r.b r.bs inv v r.backs.left)

    moved_off : Moved n i c.slot m state_off
    moved_off = taken_moves n i c.slot m r.b r.bs inv r.backs.left (first_doomed n i m r.b r.bs inv r.backs.left) r.none

    written_off : Written n i (view defers mem) m x seen_off state_off extra_off
    written_off = taken_written n i r.b r.bs (view defers mem) m x inv v r.backs.left r.none

    lefts_off : put x.lefts i ((view defers mem).nexts r.b) i ≡ next
    lefts_off = let h = first_left.1 in grind (arith, r.backs.next_is)

    fresh_off : AllFresh (put x.drained r.b false) (put m.left i r.bs i)
    fresh_off = rw (put_here m.left i r.bs) (λ a some. at a (eqb a r.b) (r.backs.fresh a some))
      where
        put_here : (l : ℕ → List ℕ) (k : ℕ) (u : List ℕ) → put l k u k ≡ u
        put_here l k u = grind arith

        at : (a : ℕ) (t : Bool) → x.drained a ≡ false → cond t false (x.drained a) ≡ false
        at a true h = refl
        at a false h = h

    rest_off : (next ≡ 0 → c.put_first ≡ 0) → Rest n i state_off extra_off (bare (record c { reclaiming = next }))
    rest_off h = record {
      common = record {
        slot_lt = r.backs.common.slot_lt;
        taken = r.backs.common.taken;
        outside = record { section = r.backs.common.outside.section; defers = r.backs.common.outside.defers };
        hand = r.backs.common.hand;
        pends = r.backs.common.pends;
        lefts = lefts_off;
        put_first = r.backs.common.put_first;
      };
      popped = r.backs.popped;
      closing = r.backs.closing;
      put = h;
      put_last = r.put_last;
      batch = may_hold_on i m x c c.held state_off extra_off (record c { reclaiming = next }) refl refl refl refl refl refl refl refl r.backs.batch;
      tries = λ e. absurd (cc (e, r.backs.once));
    }

    puts_off : next ≡ 0 → (c.put_first ≡ 0 → ⊥) → Puts n i state_off extra_off (bare (record c { reclaiming = next }))
    puts_off e some = record {
      common = record {
        slot_lt = r.backs.common.slot_lt;
        taken = r.backs.common.taken;
        outside = record { section = r.backs.common.outside.section; defers = r.backs.common.outside.defers };
        hand = r.backs.common.hand;
        pends = r.backs.common.pends;
        lefts = lefts_off;
        put_first = r.backs.common.put_first;
      };
      popped = r.backs.popped;
      closing = r.backs.closing;
      batch = may_hold_on i m x c c.held state_off extra_off (record c { reclaiming = next }) refl refl refl refl refl refl refl refl r.backs.batch;
      once = r.backs.once;
      none_left = e;
      put_last = r.put_last;
      some = some;
    }

    -- it goes on with what is left
    off_onward : (next ≡ 0 → c.put_first ≡ 0) → Stepped n i c Draining (view defers mem) m x seen_off (Taken r.b ∷ []) (onward (record c { reclaiming = next }))
    off_onward h = record {
      m2 = state_off;
      x2 = extra_off;
      moved = moved_off;
      written = written_off;
      pending = λ p. p;
      logged = refl;
      aside = aside_taken m i r.b r.bs;
      fits = onward_fits n i seen_off state_off extra_off (record c { reclaiming = next }) (rest_off h) (λ ne. fresh_off);
      slot_is = onward_slot (record c { reclaiming = next });
      told = tells.Takes r.b r.bs r.backs.left r.none refl refl (onward_part (record c { reclaiming = next }) r.backs.once);
    }

    -- or what was put is to be linked to the rest
    off_puts : next ≡ 0 → (c.put_first ≡ 0 → ⊥) → Stepped n i c Draining (view defers mem) m x seen_off (Taken r.b ∷ []) (record c { reclaiming = next; stands = at.Puts })
    off_puts e some = record {
      m2 = state_off;
      x2 = extra_off;
      moved = moved_off;
      written = written_off;
      pending = λ p. p;
      logged = refl;
      aside = aside_taken m i r.b r.bs;
      fits = puts_off e some;
      slot_is = refl;
      told = tells.Takes r.b r.bs r.backs.left r.none refl refl refl;
    }

    nothing_pending : c.pending ≡ 0 → m.pending i ≡ []
    nothing_pending e = none_pending n i (view defers mem) m x v c.slot c.list c.pending c.reclaiming c.put_first r.backs.common r.backs.popped e

    none_behind : next ≡ 0 → r.bs ≡ []
    none_behind e =
        let k = rw (r.backs.left) at (v.lists.lefted i) in
        chain_nil 0 (view defers mem).nexts ((view defers mem).nexts r.b) r.bs (omega arith) (first_left.1 ∙ sym r.backs.next_is ∙ e) k.2

    -- or there is no rest
    off_joined : next ≡ 0 → (c.put_first ≡ 0 → ⊥) → c.pending ≡ 0 → Stepped n i c Draining (view defers mem) m x seen_off (Taken r.b ∷ []) (with_put (record c { reclaiming = next }))
    off_joined e some none =
        let second = joined_alone_written n i seen_off state_off extra_off written_off.shows (nothing_pending none) r.backs.popped in
        record {
          m2 = joined state_off i;
          x2 = joined_to extra_off i;
          moved = moved_then n i c.slot m state_off (joined state_off i) moved_off (joined_moves n i c.slot state_off moved_off.inv) refl;
          written = record { shows = second.shows; keeps = keeps_joined i (view defers mem) m x seen_off extra_off written_off.keeps };
          pending = λ p. p;
          logged = refl;
          aside = aside_then m state_off (joined state_off i) (Taken r.b ∷ []) (aside_taken m i r.b r.bs) (aside_same state_off (joined state_off i) refl refl);
          fits = onward_fits n i seen_off (joined state_off i) (joined_to extra_off i) (record c { reclaiming = next; pending = c.put_first; put_first = 0; put_last = 0 })
              (puts_rest n i state_off extra_off (record c { reclaiming = next }) (puts_off e some)) (λ ne. absurd (ne e));
          slot_is = onward_slot (record c { reclaiming = next; pending = c.put_first; put_first = 0; put_last = 0 });
          told = tells.TakesLast r.b (r.backs.left ∙ ap (λ l. r.b ∷ l) (none_behind e)) r.none (ap (λ l. joined (taken m i r.b l) i) (none_behind e)) refl
              (onward_part (record c { reclaiming = next; pending = c.put_first; put_first = 0; put_last = 0 }) r.backs.once);
        }

    off_last : (p q : Bool) → next ≡ 0 → (c.put_first == 0) ≡ p → (c.pending == 0) ≡ q
        → Stepped n i c Draining (view defers mem) m x seen_off (Taken r.b ∷ [])
        (if p then onward (record c { reclaiming = next }) else (if q then with_put (record c { reclaiming = next }) else record c { reclaiming = next; stands = at.Puts }))
    off_last true q e a b = off_onward (λ z. eqb-true c.put_first 0 a)
    off_last false true e a b = off_joined e (eqb-false c.put_first 0 a) (eqb-true c.pending 0 b)
    off_last false false e a b = off_puts e (eqb-false c.put_first 0 a)

    off : (t : Bool) → (next == 0) ≡ t
        → Stepped n i c Draining (view defers mem) m x seen_off (Taken r.b ∷ [])
        (if t
        then (if c.put_first == 0 then onward (record c { reclaiming = next }) else (if c.pending == 0 then with_put (record c { reclaiming = next }) else record c { reclaiming = next; stands = at.Puts }))
        else onward (record c { reclaiming = next }))
    off true e = off_last (c.put_first == 0) (c.pending == 0) (eqb-true next 0 e) refl refl
    off false e = off_onward (λ z. absurd (eqb-false next 0 e z))

    -- and its value is the one that the block had
    pub takes_steps : (mem2 : Mem T) (end : Settle × Settled T) → Steps Took value_at mem (takes c next) mem2 end
        → Went defers n i c Draining mem m x (Taken (c.reclaiming / 2048) ∷ []) mem2 end
        × ((value : T) × (value_at mem (c.reclaiming / 2048) ≡ Some value) × (end ≡ (without_block c next, Gave value)))
    takes_steps mem2 end st =
        let d = taken_value {R = Settle × Settled T} mem (given_back c next) (c.reclaiming / 2048) mem2 end st in
        let e : end ≡ (without_block c next, Gave d.0) = d.3 in
        let mem3 = with_block mem (c.reclaiming / 2048) None in
        let seen : view defers mem3 ≡ seen_off = view_taken defers mem (c.reclaiming / 2048) mem3 (taken_one mem (c.reclaiming / 2048) value_there) ∙ ap (λ b. without (view defers mem) b) taken_at in
        let step : Stepped n i c Draining (view defers mem) m x seen_off (Taken r.b ∷ []) (without_block c next) = off (next == 0) refl in (
          subst (λ (k : Mem T). Went defers n i c Draining mem m x (Taken (c.reclaiming / 2048) ∷ []) k end) (sym d.2)
              (went defers n i c Draining mem m x (Taken (c.reclaiming / 2048) ∷ []) mem3 (without_block c next) (Gave d.0) end tt e
              (subst (λ (g : View). Stepped n i c Draining (view defers mem) m x g (Taken (c.reclaiming / 2048) ∷ []) (without_block c next)) (sym seen)
              (subst (λ (b : ℕ). Stepped n i c Draining (view defers mem) m x seen_off (Taken b ∷ []) (without_block c next)) (sym taken_at) step))),
          (d.0, d.1, e),
        )
