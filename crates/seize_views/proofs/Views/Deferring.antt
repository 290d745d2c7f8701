-- A block is taken out of a root, and put behind another one, or unlinked.
use Rattle.std.specs.Prelude.{◌≢◌, ◌<◌, ◌==◌, Option, Some, None, Ok, Err, if◌then◌else◌}
use Rattle.std.proofs.Common.{◌≡◌, ℕ, [], ◌∷◌, Bool, true, false, ◌⊎◌, inl, inr, refl, sym, subst, ap, ◌∙◌}
use Rattle.std.proofs.lemmas.Bool.{cases_eq, eq-eqb}
use Rattle.seize_words.specs.OneMemory.Mem.{Mem, Can, Took, value_at}
use Rattle.seize_words.specs.OneMemory.Word.{block_in, link_to}
use Rattle.seize_words.specs.OneMemory.Op.{Op, Out, Swap, Found, Stored, Exchanged, Made as OutMade, Taken, Roomed}
use Rattle.seize_words.specs.OneMemory.Plan.{Plan, Turn, Do, Ends, Steps}
use Rattle.seize_words.specs.declared.at.At.TheVariants.{Root, Word}
use Rattle.seize.specs.Defer.{deferring, defer_plan, plan_at}
use Rattle.seize.specs.Law.{Unlinked, Deferred, holds}
use Rattle.seize.specs.World.{World, Row, Use, Hand, Happens, Begin, Parts as PartsIt, Unlinks, Defer', Steps', MayCut, IsInside, IsNotLeft, with_row, with_use, with_hand, with_effect, after_step, one_more, one_less, at_start}
use Rattle.seize.specs.World as world
use Rattle.seize.specs.declared.advance.Advance.{Advance}
use Rattle.seize.specs.declared.advance.Advance.TheVariants.{Goes, Done}
use Rattle.seize.specs.declared.rows.defer.Defer.{Defer}
use Rattle.seize.specs.declared.rows.defer.Deferring.{Deferring}
use Rattle.seize.specs.declared.rows.defer.Deferring.TheVariants as at
use Rattle.seize_acts.proofs.Given.SeizeAloneHistories.NotTaken.{IsHad, IsHeld, still_held, kept_there}
use Rattle.seize_acts.proofs.Given.SeizeAloneHistories.Reached.{Reached}
use Rattle.seize_acts.proofs.Given.SeizeMovesState.Held.{held_on}
use Rattle.seize_acts.proofs.Given.SeizeRuleRows.Others.{with_here, with_other}
use Rattle.seize_seats.specs.Seats.State.{State, view_of}
use Rattle.seize_views.specs.Views.Chains.{all_roots}
use Rattle.seize_views.specs.Views.Deferring.{IsTaking, HasSeen, LinksSo, TakingsBegin, BlocksAreTakenOut, PartedAreShown, PartedAreCut, PartedAreDeferred, DeferralsGoOn, DeferralsEnd}
use Rattle.seize_views.specs.Views.Promises.{op_in}
use Rattle.seize_views.specs.Views.Rows.{Leads, hand_of, use_of, IsInSomeHand, IsFound, Fits, Holds}
use Rattle.seize_views.specs.Views.Told.{HasOutcome, parted_in, told}
use Rattle.seize_views.specs.declared.view.Deferral.TheVariants.{Takes, Parts, Puts}
use Rattle.seize_views.specs.declared.view.Fixed.{Fixed}
use Rattle.seize_views.specs.declared.view.Has.TheVariants.{Nothing, Made, Seen, Both, Cut}
use Rattle.seize_views.specs.declared.view.SlotView.{SlotView}
use Rattle.seize_views.specs.declared.view.SlotView.TheVariants.{Inside, Defers}
use Rattle.seize_views.proofs.Views.Came.{of_users, reached, since_one, since_then, since_both}
use Rattle.seize_views.proofs.Views.Chains.{linked_back}
use Rattle.seize_views.proofs.Views.Found.{found_with}
use Rattle.seize_views.proofs.Views.InWorld.{IsJustSo, may, same_slot}
use Rattle.seize_views.proofs.Views.Lifted.{has_row}
use Rattle.seize_views.proofs.Views.Linking.{links}
use Rattle.seize_views.proofs.Views.Looks.{rest_of}
use Rattle.seize_views.proofs.Views.Moved.{LinksStay, chains_stay, inside_so, moved, still_used}
use Rattle.seize_views.proofs.Views.Settling.{may_op}
use Rattle.seize_views.proofs.Views.Steps.{roots_kept, others, alone, step_of, stepped}
use Rattle.seize_views.proofs.Views.Users.{beside, passes_one, passes_then, users_on, stands}
use Rattle.seize_views.proofs.Views.Written.{Wrote, wrote, root_can, GoesOut, clears, none_found, gone_hands, gone_sole, gone_roots, gone_chains, gone_found}
use Rattle.seize_words.proofs.General.{same_some, some_is, some_there}

use_parting : (r i : ℕ) → world.InUse r ≡ world.Parting i → ⊥
use_parting r i e = cc e

parting_use : (i r : ℕ) → world.Parting i ≡ world.InUse r → ⊥
parting_use i r e = cc e

module _ {T R : Type 0} where
  -- what was made in some memory has this outcome
  has_outcome : (plan : Plan T R) (op : Op T) (out : Out T) (m n : Mem T) (end : R) → op_in plan ≡ Some op → Took m op out n → Ends (value_at n) (rest_of plan out) end
      → HasOutcome plan out end
  has_outcome (Turn rest) op out m n end e took ends = absurd (cc e)
  has_outcome (Do o rest) op out m n end e took ends = (m, n, subst (λ (x : Op T). Took m x out n) (sym (same_some o op e)) took, ends)

module _ {T : Type 0} where
  -- a deferral that makes an operation goes on
  goes_so : (c : Defer) (p : Deferring) (op : Op T) (out : Out T) (shown : ℕ → Option T) (end : Defer × Advance Unit) → op_in (plan_at {T = T} c p) ≡ Some op
      → Ends shown (rest_of (plan_at c p) out) end → (d : Defer) × (end ≡ (d, Goes))
  goes_so c at.Reads op (Found head) shown end e ends = (end.0, ap (λ (x : Defer × Advance Unit). (end.0, x.1)) ends)
  goes_so c at.Reads op Stored shown end e ends = (end.0, ap (λ (x : Defer × Advance Unit). (end.0, x.1)) ends)
  goes_so c at.Reads op (Exchanged x) shown end e ends = (end.0, ap (λ (x : Defer × Advance Unit). (end.0, x.1)) ends)
  goes_so c at.Reads op (OutMade x) shown end e ends = (end.0, ap (λ (x : Defer × Advance Unit). (end.0, x.1)) ends)
  goes_so c at.Reads op (Taken x) shown end e ends = (end.0, ap (λ (x : Defer × Advance Unit). (end.0, x.1)) ends)
  goes_so c at.Reads op (Roomed x) shown end e ends = (end.0, ap (λ (x : Defer × Advance Unit). (end.0, x.1)) ends)
  goes_so c (at.Links head) op out shown end e ends = (end.0, ap (λ (x : Defer × Advance Unit). (end.0, x.1)) ends)
  goes_so c (at.Pushes head) op (Exchanged (Ok x)) shown end e ends = (end.0, ap (λ (x : Defer × Advance Unit). (end.0, x.1)) ends)
  goes_so c (at.Pushes head) op (Exchanged (Err x)) shown end e ends = (end.0, ap (λ (x : Defer × Advance Unit). (end.0, x.1)) ends)
  goes_so c (at.Pushes head) op (Found x) shown end e ends = (end.0, ap (λ (x : Defer × Advance Unit). (end.0, x.1)) ends)
  goes_so c (at.Pushes head) op Stored shown end e ends = (end.0, ap (λ (x : Defer × Advance Unit). (end.0, x.1)) ends)
  goes_so c (at.Pushes head) op (OutMade x) shown end e ends = (end.0, ap (λ (x : Defer × Advance Unit). (end.0, x.1)) ends)
  goes_so c (at.Pushes head) op (Taken x) shown end e ends = (end.0, ap (λ (x : Defer × Advance Unit). (end.0, x.1)) ends)
  goes_so c (at.Pushes head) op (Roomed x) shown end e ends = (end.0, ap (λ (x : Defer × Advance Unit). (end.0, x.1)) ends)
  goes_so c at.Over op out shown end e ends = absurd (cc e)

  -- a block that is found is left to nobody
  not_left : (fixed : Fixed) (m : Mem T) (b : ℕ) (has : Hand → Type 0) (k : Hand) → IsFound fixed m b has k → IsNotLeft k
  not_left fixed m b has world.NoBlock f = tt
  not_left fixed m b has (world.Making h) f = tt
  not_left fixed m b has (world.InUse r) f = tt
  not_left fixed m b has (world.Parting h) f = tt
  not_left fixed m b has (world.Cutting h) f = tt
  not_left fixed m b has world.Handed f = tt
  not_left fixed m b has (world.LeftTo h) f = f

module _ {T : Type 0} (defers : T → Option ℕ) (fixed : Fixed) (s : State T (SlotView T) (World T)) (id : ℕ) (h : Holds defers fixed s) where
  abbrev w : World T
  w = s.world

  r : Reached defers fixed.batch_size w
  r = reached defers fixed w h.came

  -- what a section holds has a value
  held_value : (t a : ℕ) → holds t a w.log ≡ true → (y : T) × (value_at w.memory a ≡ Some y)
  held_value t a held = some_there (value_at w.memory a) (kept_there defers fixed.batch_size w r a (IsHeld t held))

  -- it turns to take a block out, beside the one that it has seen
  takes : (v : SlotView T) → view_of s id ≡ Some v → HasSeen v → Leads defers fixed s s.memory id (IsTaking v)
  takes (Inside t (Seen a)) at_id seen =
      let held = (h.seats id (Inside t (Seen a)) at_id).known in
      let k = held_value t a held in
      stands defers fixed s id t (Inside t (Seen a)) (Defers t (Takes a k.0 None)) h at_id refl refl refl tt s.memory refl Nothing tt refl refl ((held, k.1), tt) tt tt
      (IsTaking (Inside t (Seen a))) (k.0, refl)
  takes (Inside t (Both b x a)) at_id seen =
      let known = (h.seats id (Inside t (Both b x a)) at_id).known in
      let k = held_value t a known.1 in
      stands defers fixed s id t (Inside t (Both b x a)) (Defers t (Takes a k.0 (Some (b, x)))) h at_id refl refl refl tt s.memory refl (Made b x) known.0 refl refl
      ((known.1, k.1), known.0) tt tt (IsTaking (Inside t (Both b x a))) (k.0, refl)
  takes _ at_id seen = absurd seen

  -- ---- it takes one out
  module _ (t a : ℕ) (y : T) (made : Option (ℕ × T)) (at_id : view_of s id ≡ Some (Defers t (Takes a y made))) where
    abbrev v : SlotView T
    v = Defers t (Takes a y made)

    fit : Fits defers w id v
    fit = h.seats id v at_id

    inside : IsInside (w.uses t)
    inside = inside_so defers w id t (Takes a y made) fit

    parted : (root old : ℕ) (m : Mem T) → root < fixed.roots → (so : SlotView T → Type 0) → ((x : T) → so (parted_in t a y x old))
        → GoesOut defers fixed s id v h at_id t root old m so
    parted root old m plain so is n u named found still was fresh = by (block_in old == 0) refl was
      where
        no_use : (k : ℕ) → world.Parting id ≡ world.InUse k → ⊥
        no_use k e = parting_use id k e

        came : Reached defers fixed.batch_size n
        came = reached defers fixed n (since_both defers fixed (at_start defers (all_roots fixed)) w n h.came u.since)

        held_now : holds t a n.log ≡ true
        held_now = u.held t a fit.known.0.0

        value_now : value_at n.memory a ≡ Some y
        value_now =
            u.values a (inr (inr (t, inside, fit.known.0.0))) (some_is (value_at w.memory a) y fit.known.0.1) (kept_there defers fixed.batch_size n came a (IsHeld t held_now))
            ∙ fit.known.0.1

        so_at : (x : T) (z : Bool) → (block_in old == 0) ≡ z → so (if z then Inside t (Seen a) else Defers t (Parts a y (block_in old) x))
        so_at x z e = subst (λ (q : Bool). so (if q then Inside t (Seen a) else Defers t (Parts a y (block_in old) x))) e (is x)

        by : (z : Bool) → (block_in old == 0) ≡ z → (block_in old ≡ 0) ⊎ (w.hand (block_in old) ≡ world.InUse root) → Leads defers fixed s m id so
        by true e was =
            users_on defers fixed s id t v (Inside t (Seen a)) h at_id refl refl refl tt m n Nothing u (λ b. none_found defers fixed s id v h at_id old m n b e (found b)) refl
            held_now tt tt so (so_at y true e)
        by false e (inl none) = absurd (let k = eq-eqb (block_in old) 0 none in cc (k, e))
        by false e (inr linked) =
            let b : ℕ = block_in old in
            let mine : n.hand b ≡ world.InUse root = still b linked in
            let k : Hand = world.Parting id in
            let x : World T = with_hand n b k in
            let here = some_there (value_at n.memory b) (kept_there defers fixed.batch_size n came b (IsHad (of_users n.hand b (world.InUse root) tt mine))) in
            let own : x.hand b ≡ k = with_here n.hand b k in
            let next : SlotView T = Defers t (Parts a y b here.0) in
            moved defers fixed s id v next m x so h at_id (record {
              since = since_then defers fixed w n x (PartsIt id b) u.since ((root, mine), refl);
              memory = u.memory;
              rows = λ j ne. ap (λ f. f j) u.row;
              own = record {
                row = ap (λ f. f id) u.row ∙ fit.row;
                slot = ap (λ (f : ℕ → Use). f t) u.uses ∙ fit.slot;
                short = tt;
                known = ((held_now, value_now), ((id, own), here.1));
                its_own = own;
              };
              others = λ j z ne e. still_used w x (use_of z) (h.seats j z e).slot (λ c d q. ap (λ (f : ℕ → Use). f c) u.uses);
              alone = alone defers fixed s id v h at_id next (λ c d q. (d, q));
              hands = gone_hands defers fixed s id v h at_id t root old m n u linked mine k no_use;
              sole = gone_sole defers fixed s id v h at_id t root old m n u linked mine k no_use;
              values = u.values;
              links = u.links;
              held = λ c d inside held. u.held c d held;
              over = u.over;
              roots = gone_roots defers fixed s id v h at_id t root old m n u linked mine k no_use named fresh;
              rooted = u.rooted;
              chains = gone_chains defers fixed s id v h at_id t root old m n u linked mine k no_use plain;
              found = λ c. gone_found defers fixed s id v h at_id t root old m n u linked mine k no_use (inl refl) c (cases_eq c b) (found c);
              passes = passes_then defers fixed s id t n x (PartsIt id b) tt (λ j. tt) u.passes ((root, mine), refl);
              bounded = tt;
            }) (so_at here.0 false e)

  -- where it puts nothing there, or the block that it has made
  swaps : (t a : ℕ) (y : T) (made : Option (ℕ × T)) (at_id : view_of s id ≡ Some (Defers t (Takes a y made))) (root word : ℕ) → root < fixed.roots → LinksSo made word
      → (out : Out T) (m : Mem T) → Took s.memory (Swap (Root root) word) out m → Leads defers fixed s m id (told defers (Defers t (Takes a y made)) (Swap (Root root) word) out)
  swaps t a y made at_id root word plain is (Found old) m took =
      by made at_id is (wrote defers fixed s id (Defers t (Takes a y made)) h at_id root word old m (Swap (Root root) word) (Found old) tt took took.0 took.1)
    where
      by : (o : Option (ℕ × T)) (e : view_of s id ≡ Some (Defers t (Takes a y o))) → LinksSo o word → Wrote defers fixed s id root word old m
          → Leads defers fixed s m id (λ u. (x : T) × (u ≡ parted_in t a y x old))
      by None e none it =
          clears defers fixed s id (Defers t (Takes a y None)) h e t root old m plain refl (subst (λ (k : ℕ). Wrote defers fixed s id root k old m) none it)
          (λ u. (x : T) × (u ≡ parted_in t a y x old))
          (parted t a y None e root old m plain (λ u. (x : T) × (u ≡ parted_in t a y x old)) (λ x. (x, refl)))
      by (Some (b, z)) e names it =
          let mine = (h.seats id (Defers t (Takes a y (Some (b, z)))) e).known.1.0 in
          links defers fixed s id t (Defers t (Takes a y (Some (b, z)))) h e b root mine.0 word names mine.1 refl old m plain it (λ u. (x : T) × (u ≡ parted_in t a y x old))
          (parted t a y (Some (b, z)) e root old m plain (λ u. (x : T) × (u ≡ parted_in t a y x old)) (λ x. (x, refl)))
  swaps t a y made at_id root word plain is Stored m took = absurd took.0
  swaps t a y made at_id root word plain is (Exchanged x) m took = absurd took.0
  swaps t a y made at_id root word plain is (OutMade x) m took = absurd took.0
  swaps t a y made at_id root word plain is (Taken x) m took = absurd took.0
  swaps t a y made at_id root word plain is (Roomed x) m took = absurd took.0

  -- ---- it has taken one out
  module _ (t a : ℕ) (y : T) (b : ℕ) (x : T) (at_id : view_of s id ≡ Some (Defers t (Parts a y b x))) where
    abbrev has : SlotView T
    has = Defers t (Parts a y b x)

    parts : Fits defers w id has
    parts = h.seats id has at_id

    -- nobody else has it
    others_not : (j c : ℕ) (z : SlotView T) → j ≢ id → view_of s j ≡ Some z → hand_of z ≡ Some c → c ≡ b → ⊥
    others_not j c z ne e q is = ne (h.sole j id b z has e at_id (q ∙ ap Some is) refl)

    may_cut : MayCut id (w.hand b)
    may_cut = subst (λ (k : Hand). MayCut id k) (sym parts.its_own) refl

    not_use : (c e : ℕ) → w.hand c ≡ world.InUse e → world.InUse e ≡ w.hand b → ⊥
    not_use c e is same = use_parting e id (same ∙ parts.its_own)

    -- it is unlinked
    cuts : Leads defers fixed s s.memory id (λ u. u ≡ Inside t (Cut b))
    cuts =
        let k : Hand = world.Cutting id in
        let n : World T = with_effect (with_hand w b k) (Unlinked b) in
        let happens : Happens defers fixed.batch_size (Unlinks id b) w n = (may_cut, refl) in
        let since = since_one defers fixed w n (Unlinks id b) happens in
        let linked : (c e : ℕ) → w.hand c ≡ world.InUse e → n.hand c ≡ world.InUse e = (λ c e is. beside w b c k (world.InUse e) (not_use c e is) is) in
        let links : LinksStay defers fixed s id n = (λ c apart some. (refl, refl)) in
        users_on defers fixed s id t has (Inside t (Cut b)) h at_id refl refl refl tt s.memory n (Cut b) (record {
          since = since;
          memory = h.memory;
          row = refl;
          uses = refl;
          in_hand = (id, with_here w.hand b k);
          hands = λ j c z ne e q. with_other w.hand b c k (others_not j c z ne e q);
          sole = λ j c z ne e q p. ne (h.sole j id c z has e at_id q p);
          values = λ c its some some2. refl;
          links = links;
          held = λ e c held. held_on e c (Unlinked b) w.log tt held;
          over = λ e c held. refl;
          roots = roots_kept s.memory s.memory w.hand n.hand refl linked h.roots;
          rooted = h.rooted;
          chains = chains_stay defers fixed s id h s.memory n h.memory since links (λ e is. refl) (λ c e is f. linked c e f)
              (λ c e is f. linked_back w.hand b k e c (λ q. cc q) f);
          passes = passes_one defers fixed s id t (Unlinks id b) n (λ j. tt) happens;
        }) (found_with defers fixed s id has h at_id (Some b) s.memory refl b k (inl refl) (λ c ne e. e)) refl (id, with_here w.hand b k) tt tt
        (λ u. u ≡ Inside t (Cut b)) refl

    -- or the row begins that puts it behind the other one
    puts : (field : ℕ) → defers y ≡ Some field → defers x ≡ None
        → Leads defers fixed s s.memory id (λ u. u ≡ Defers t (Puts a (deferring (link_to b) (Word a field))))
    puts field keeps none =
        let c : Defer = deferring (link_to b) (Word a field) in
        let row : Row = world.Defers t c in
        let n : World T = with_effect (with_hand (with_use (with_row w id row) t (one_more (w.uses t))) b world.Handed) (Deferred b a) in
        let next : SlotView T = Defers t (Puts a c) in
        let inside : IsInside (w.uses t) = inside_so defers w id t (Parts a y b x) parts in
        let happens : Happens defers fixed.batch_size (Begin id (Defer' t b a)) w n =
        (parts.row, (field, inside, may_cut, (x, parts.known.1.1, none), (y, parts.known.0.1, keeps), parts.known.0.0, not_left fixed s.memory a (IsInSomeHand s h.life.began a) (w.hand a) (h.found a), refl)) in
        let since = since_one defers fixed w n (Begin id (Defer' t b a)) happens in
        let linked : (d e : ℕ) → w.hand d ≡ world.InUse e → n.hand d ≡ world.InUse e = (λ d e is. beside w b d world.Handed (world.InUse e) (not_use d e is) is) in
        let links : LinksStay defers fixed s id n = (λ d apart some. (refl, refl)) in
        moved defers fixed s id has next s.memory n (λ u. u ≡ next) h at_id (record {
          since = since;
          memory = h.memory;
          rows = λ j ne. with_other w.row id j row ne;
          own = record {
            row = with_here w.row id row;
            slot = with_here w.uses t (one_more (w.uses t)) ∙ ap one_more parts.slot;
            short = tt;
            known = held_on t a (Deferred b a) w.log tt parts.known.0.0;
            its_own = tt;
          };
          others = others defers fixed s id has h at_id n
              (λ e used apart. with_other w.uses t e (one_more (w.uses t)) (λ q. apart (world.Inside 0) (ap (λ (k : ℕ). Some (k, world.Inside 0)) (sym q))));
          alone = alone defers fixed s id has h at_id next (λ e d q. same_slot t e (world.Inside 1) d (world.Inside 0) q);
          hands = λ j d z ne e q. with_other w.hand b d world.Handed (others_not j d z ne e q);
          sole = λ j d z ne e q p. cc p;
          values = λ d its some some2. refl;
          links = links;
          held = λ e d inside held. held_on e d (Deferred b a) w.log tt held;
          over = λ e d held. refl;
          roots = roots_kept s.memory s.memory w.hand n.hand refl linked h.roots;
          rooted = h.rooted;
          chains = chains_stay defers fixed s id h s.memory n h.memory since links (λ e is. refl) (λ d e is f. linked d e f)
              (λ d e is f. linked_back w.hand b world.Handed e d (λ q. cc q) f);
          found = found_with defers fixed s id has h at_id None s.memory refl b world.Handed tt (λ d ne e. absurd (ne (same_some d b (sym e))));
          passes = λ j ne was now. (Begin id (Defer' t b a) ∷ [], (n, (λ e. ne (sym e)), happens, now, refl));
          bounded = tt;
        }) refl

  -- ---- the row is under way
  module _ (t a : ℕ) (c : Defer) (at_id : view_of s id ≡ Some (Defers t (Puts a c))) where
    abbrev goes : SlotView T
    goes = Defers t (Puts a c)

    puts_fit : Fits defers w id goes
    puts_fit = h.seats id goes at_id

    -- what the section holds it holds after a step of it
    held_still : (n : World T) → Steps' defers id (world.Defers t c) w n → holds t a n.log ≡ true
    held_still n step =
        still_held defers fixed.batch_size w r id n (step_of defers fixed s id goes h at_id n step) t a (inside_so defers w id t (Puts a c) puts_fit) puts_fit.known

    -- it goes on
    steps : (op : Op T) (out : Out T) (m : Mem T) (end : Defer × Advance Unit) (d : Defer) → end ≡ (d, Goes) → Steps Took value_at w.memory (defer_plan c) m end
        → HasOutcome (defer_plan {T = T} c) out end → Leads defers fixed s m id (told defers goes op out)
    steps op out m end d is st outcome =
        let n : World T = after_step w id m (world.Defers t d) [] in
        let next : SlotView T = Defers t (Puts a d) in
        let step : Steps' defers id (world.Defers t c) w n =
        (m, (d, Goes), subst (λ (e : Defer × Advance Unit). Steps Took value_at w.memory (defer_plan c) m e) is st, refl) in
        moved defers fixed s id goes next m n (told defers goes op out) h at_id
        (stepped defers fixed s id goes h at_id next m n step refl
        (record { row = with_here w.row id (world.Defers t d); slot = puts_fit.slot; short = tt; known = held_still n step; its_own = tt })
        (alone defers fixed s id goes h at_id next (λ e b q. (b, q))) refl tt)
        (end, outcome, ap (λ (e : Defer × Advance Unit). Defers t (Puts a e.0)) (sym is))

    goes_on : (op : Op T) → op_in (defer_plan {T = T} c) ≡ Some op
        → Can s.memory op × ((out : Out T) (m : Mem T) → Took s.memory op out m → Leads defers fixed s m id (told defers goes op out))
    goes_on op e =
        let k = may_op w.memory (defer_plan c) op e (may defers fixed IsJustSo w id goes (has_row defers fixed s id goes h at_id)) in (
          subst (λ (m : Mem T). Can m op) (sym h.memory) k.0,
          λ out m took.
              let here : Took w.memory op out m = subst (λ (x : Mem T). Took x op out m) h.memory took in
              let to = k.1 out m here in
              let d = goes_so c c.stands op out (value_at m) to.0 e to.2 in
              steps op out m to.0 d.0 d.1 to.1 (has_outcome (defer_plan c) op out w.memory m to.0 e here to.2),
        )

    -- and ends
    ends : c.stands ≡ at.Over → Leads defers fixed s s.memory id (λ u. u ≡ Inside t (Seen a))
    ends over =
        let n : World T = with_use (after_step w id w.memory world.Rests []) t (one_less (w.uses t)) in
        let next : SlotView T = Inside t (Seen a) in
        let step : Steps' defers id (world.Defers t c) w n =
        (w.memory, (c, Done tt), subst (λ (p : Deferring). Steps Took value_at w.memory (plan_at c p) w.memory (c, Done tt)) (sym over) (refl, refl), refl) in
        subst (λ (m : Mem T). Leads defers fixed s m id (λ u. u ≡ next)) (sym h.memory)
        (moved defers fixed s id goes next w.memory n (λ u. u ≡ next) h at_id
        (stepped defers fixed s id goes h at_id next w.memory n step refl
        (record {
          row = with_here w.row id world.Rests;
          slot = with_here w.uses t (one_less (w.uses t)) ∙ ap one_less puts_fit.slot;
          short = tt;
          known = held_still n step;
          its_own = tt;
        }) (alone defers fixed s id goes h at_id next (λ e b q. same_slot t e (world.Inside 0) b (world.Inside 1) q)) refl tt) refl)

module _ (T : Type 0) (defers : T → Option ℕ) where
  pub takings_begin : TakingsBegin T defers
  takings_begin fixed id v seen s h at_id = takes defers fixed s id h v at_id seen

  pub blocks_are_taken_out : BlocksAreTakenOut T defers
  blocks_are_taken_out fixed t a y made root word is lt id s h at_id = (
    root_can defers fixed s id (Defers t (Takes a y made)) h at_id root lt,
    λ out m took. swaps defers fixed s id h t a y made at_id root word lt is out m took,
  )

  pub parted_are_shown : PartedAreShown T defers
  parted_are_shown fixed id t a b y x = (
    (λ s h at_id. some_is (value_at s.memory a) y (first s h at_id), λ z of. same_some z y (sym of.3 ∙ first of.0 of.1 of.2)),
    (λ s h at_id. some_is (value_at s.memory b) x (second s h at_id), λ z of. same_some z x (sym of.3 ∙ second of.0 of.1 of.2)),
  )
    where
      first : (s : State T (SlotView T) (World T)) → Holds defers fixed s → view_of s id ≡ Some (Defers t (Parts a y b x)) → value_at s.memory a ≡ Some y
      first s h at_id = ap (λ (m : Mem T). value_at m a) h.memory ∙ (h.seats id (Defers t (Parts a y b x)) at_id).known.0.1

      second : (s : State T (SlotView T) (World T)) → Holds defers fixed s → view_of s id ≡ Some (Defers t (Parts a y b x)) → value_at s.memory b ≡ Some x
      second s h at_id = ap (λ (m : Mem T). value_at m b) h.memory ∙ (h.seats id (Defers t (Parts a y b x)) at_id).known.1.1

  pub parted_are_cut : PartedAreCut T defers
  parted_are_cut fixed id t a b y x s h at_id = cuts defers fixed s id h t a y b x at_id

  pub parted_are_deferred : PartedAreDeferred T defers
  parted_are_deferred fixed id t a b field y x keeps none s h at_id = puts defers fixed s id h t a y b x at_id field keeps none

  pub deferrals_go_on : DeferralsGoOn T defers
  deferrals_go_on fixed t a c op e id s h at_id = goes_on defers fixed s id h t a c at_id op e

  pub deferrals_end : DeferralsEnd T defers
  deferrals_end fixed id t a c over s h at_id = ends defers fixed s id h t a c at_id over
