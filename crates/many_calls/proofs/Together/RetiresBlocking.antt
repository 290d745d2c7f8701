-- What a copier knows, in blocking mode, once it has handed the first of its unlinked tables over to the collector: those behind it are its own still.
use Rattle.std.specs.Prelude.{Option, if◌then◌else◌}
use Rattle.std.proofs.Common.{◌≡◌, ◌≢◌, ℕ, suc, ◌*◌, ◌<◌, ◌≤◌, Bool, true, inl, inr, ap, sym, subst, arith}
use Rattle.std.proofs.lemmas.Bool.{cases_lt, ne_eqb}
use Rattle.seize_model.specs.Given.SeizeDeclared.rows.settle.Settle.{Settle}
use Rattle.seize_model.specs.Given.SeizeWorld.{World, Row, Use, Making, Cutting, Handed, with_at}
use Rattle.map_facts_late.specs.Given.TablesDeclared.node.Node.{Node}
use Rattle.map_facts_late.specs.Given.TablesDeclared.setting.Setting.{Setting}
use Rattle.map_facts_late.specs.Given.ResizeCopierPromotes.{table_retired}
use Rattle.map_facts_late.specs.Given.ResizeCopierStates as copiers
use Rattle.map_facts_late.specs.Given.ResizeDeclared.copier.Copier.{Copier}
use Rattle.map_facts_late.specs.Given.ResizeDeclared.copier.Copying.TheVariants as copies
use Rattle.map_facts_late.specs.Given.RawCallPoints as points
use Rattle.map_facts_late.specs.Given.RawDeclared.machines.call.KeyCall.{KeyCall}
use Rattle.map_facts_late.specs.Given.RawDeclared.machines.call.Calling.TheVariants as at
use Rattle.map_facts_late.specs.Given.RuleChart.{Chart}
use Rattle.map_facts_late.specs.Given.RuleInWorld.{IsMapIn}
use Rattle.map_facts_late.specs.Given.RuleWords.{Blocks}
use Rattle.map_facts_late.proofs.Given.RuleWorld.Hands.{hand_kept}
use Rattle.map_facts_late.specs.Given.PointsFactsCalls.{Change, Unchanged, Holding, Apart, InBlock, ByReply, holding, IsOwnPair, HasOwn, HasIts, CallFacts}
use Rattle.map_facts_late.specs.Given.PointsFactsCopiesBlocking.{CopyingFactsBlocking, CopierFactsBlocking}
use Rattle.map_facts_late.specs.Given.PointsFactsDisposes.{IsToRetire}
use Rattle.map_facts_late.specs.LateCalls.{SupersededCallFacts}
use Rattle.map_facts_late.specs.LateCopies.{SupersededCopying, SupersededCopierFacts}
use Rattle.many_calls.proofs.Together.FactsOn.{KnowsOfCall}

-- a block is handed over
abbrev pub handed_over : {T : Type 0} → World T → ℕ → (ℕ → Row) → (ℕ → Use) → World T
handed_over w b row uses = record w { row = row; uses = uses; hand = with_at w.hand b Handed }

-- what a call made it has still, where it hands over a block that it has unlinked
module _ {K V Q : Type 0} (same : K → K → Bool) (hash : K → ℕ) (asks : Q → K → Bool) (w : World (Node K V)) (caller : ℕ) (setting : Setting) (c : Chart K) (blocks : Blocks)
    (keys : K → Bool) (change : Change) (b : ℕ) (cut : w.hand b ≡ Cutting caller) (row : ℕ → Row) (uses : ℕ → Use) where
  own_on : (own code : ℕ) → IsOwnPair same hash asks w caller setting c blocks keys change own code → IsOwnPair same hash asks (handed_over w b row uses) caller setting c blocks keys change own code
  own_on own code h = record {
    block = h.block;
    key = h.key;
    value = h.value;
    number = h.number;
    word_is = h.word_is;
    hand = hand_kept w.hand b Handed (Making caller) h.block (λ e. (let at : w.hand b ≡ Making caller = subst (λ (y : ℕ). w.hand y ≡ Making caller) e h.hand in absurd (cc (at, cut)))) h.hand;
    there = h.there;
    keys_are = h.keys_are;
    code_is = h.code_is;
  }

  has_own_on : (x : Holding) (asked : Option Q) (key : Option K) (own code : ℕ) → HasOwn same hash asks w caller setting c blocks keys change x asked key own code
      → HasOwn same hash asks (handed_over w b row uses) caller setting c blocks keys change x asked key own code
  has_own_on InBlock asked key own code h = (h.0, h.1, own_on own code h.2)
  has_own_on Apart asked key own code h = h
  has_own_on ByReply asked key own code (none, inl (out, h)) = (none, inl (out, record { key = h.key; key_is = h.key_is; keys_are = h.keys_are; code_is = h.code_is }))
  has_own_on ByReply asked key own code (none, inr (out, h)) = (none, inr (out, own_on own code h))

  pub its_own_on : (p : KeyCall K V Q) → HasIts same hash asks w caller setting c blocks keys change p → HasIts same hash asks (handed_over w b row uses) caller setting c blocks keys change p
  its_own_on p = has_own_on (holding p.replies.takes p.missing) p.asked p.replies.key p.own p.hash

-- where a copier stands then
module _ (p : Copier) (rest : ℕ) where
  over_after : rest ≡ 0 → copiers.standing p copies.Over ≡ table_retired p rest
  over_after none = ap (table_retired p) (sym none)

  next_after : rest ≢ 0 → copiers.standing p (copies.Succeeds rest) ≡ table_retired p rest
  next_after some = ap (λ (q : Bool). if q then copiers.standing p copies.Over else copiers.standing p (copies.Succeeds rest)) (sym (ne_eqb rest 0 some))

module _ {K V : Type 0} (same : K → K → Bool) (hash : K → ℕ) (setting : Setting) (w : World (Node K V)) (c : Chart K) (blocks : Blocks) (map : IsMapIn same hash setting w c blocks)
    (caller : ℕ) where
  module _ (row : ℕ → Row) (uses : ℕ → Use) where
    -- the tables from s on, up to t, are its own
    abbrev CutFrom : World (Node K V) → ℕ → ℕ → Type 0
    CutFrom v s t = (u : ℕ) → s ≤ u → u < t → (blocks.table_known u ≡ true) × (v.hand (blocks.table u) ≡ Cutting caller)

    module _ (s t : ℕ) (before : s < t) (made : t < c.past) (cut : CutFrom w s t) where
      cut_behind : CutFrom (handed_over w (blocks.table s) row uses) (suc s) t
      cut_behind u low high =
          let here = cut s (omega arith) before in
          let there = cut u (omega (arith, low)) high in
          let apart : blocks.table u ≢ blocks.table s = (λ e. let one = map.map.shows.tables_apart u s (omega (arith, high, made)) (omega (arith, before, made)) there.0 here.0 e in omega (arith, one, low)) in
          (there.0, hand_kept w.hand (blocks.table s) Handed (Cutting caller) (blocks.table u) apart there.1)

      link_some : (rest : ℕ) → suc s < t → rest ≡ blocks.table (suc s) * 2048 → rest ≢ 0
      link_some rest l e none = let some = map.map.shows.table_numbers (suc s) (omega (arith, l, made)) (cut (suc s) (omega arith) l).0 in omega (arith, some.0, e, none)

    -- the root is its target still
    pub copier_past : (p : Copier) (settle : Settle) (rest : ℕ) → p.setting ≡ setting → (f : CopyingFactsBlocking same hash w caller setting c blocks p (copies.Retires settle rest))
        → CopierFactsBlocking same hash (handed_over w (blocks.table f.0) row uses) caller setting c blocks (table_retired p rest)
    copier_past p settle rest setting_is (s, (l, target, idle, cut), retire, next) =
        elim (cases_lt (suc s) c.first) as (λ _. CopierFactsBlocking same hash (handed_over w (blocks.table s) row uses) caller setting c blocks (table_retired p rest)) [
          | inl more ↦ subst (CopierFactsBlocking same hash (handed_over w (blocks.table s) row uses) caller setting c blocks) (next_after p rest (link_some s c.first l target.made cut rest more (next.0 more)))
              (record { setting_is = setting_is; point = (suc s, (more, target, idle, cut_behind s c.first l target.made cut), next.0 more) })
          | inr last ↦ subst (CopierFactsBlocking same hash (handed_over w (blocks.table s) row uses) caller setting c blocks) (over_after p rest (next.1 (omega (arith, l, last))))
              (record { setting_is = setting_is; point = (target, idle) })
        ]

    -- the root has left its target
    pub late_copier_past : (began : ℕ) (p : Copier) (settle : Settle) (rest : ℕ) → p.setting ≡ setting → (f : SupersededCopying same hash w caller setting c blocks began p (copies.Retires settle rest))
        → SupersededCopierFacts same hash (handed_over w (blocks.table f.0) row uses) caller setting c blocks began (table_retired p rest)
    late_copier_past began p settle rest setting_is (s, t, (l, target, left, idle, cut), retire, next) =
        elim (cases_lt (suc s) t) as (λ _. SupersededCopierFacts same hash (handed_over w (blocks.table s) row uses) caller setting c blocks began (table_retired p rest)) [
          | inl more ↦ subst (SupersededCopierFacts same hash (handed_over w (blocks.table s) row uses) caller setting c blocks began) (next_after p rest (link_some s t l target.made cut rest more (next.0 more)))
              (record { setting_is = setting_is; point = (suc s, t, (more, target, left, idle, cut_behind s t l target.made cut), next.0 more) })
          | inr last ↦ subst (SupersededCopierFacts same hash (handed_over w (blocks.table s) row uses) caller setting c blocks began) (over_after p rest (next.1 (omega (arith, l, last))))
              (record { setting_is = setting_is; point = (t, target, left, idle) })
        ]

    -- the call that it works for
    module _ {Q : Type 0} (asks : Q → K → Bool) (keys : K → Bool) (call : KeyCall K V Q) (p : Copier) (settle : Settle) (rest : ℕ) where
      abbrev retiring : KeyCall K V Q
      retiring = points.standing call (at.Copies (copiers.standing p (copies.Retires settle rest)))

      abbrev past : KeyCall K V Q
      past = points.standing call (at.Copies (table_retired p rest))

      pub call_past : (change : Change) → (k : CallFacts same hash asks w caller setting c blocks keys change retiring)
          → CallFacts same hash asks (handed_over w (blocks.table k.point.2.point.0) row uses) caller setting c blocks keys change past
      call_past change k =
          let f = k.point.2.point in
          record {
            setting_is = k.setting_is;
            may = k.may;
            code = k.code;
            class = k.class;
            unchanged = k.unchanged;
            idle = λ none. absurd (none tt);
            point = (
              its_own_on same hash asks w caller setting c blocks keys change (blocks.table f.0) f.2.1 row uses call k.point.0,
              k.point.1,
              copier_past (copiers.standing p (copies.Retires settle rest)) settle rest k.point.2.setting_is f,
            );
          }

      pub late_call_past : (began : ℕ) → (k : SupersededCallFacts same hash asks w caller setting c blocks keys began retiring)
          → SupersededCallFacts same hash asks (handed_over w (blocks.table k.point.1.point.0) row uses) caller setting c blocks keys began past
      late_call_past began k =
          let f = k.point.1.point in
          record {
            blocking = k.blocking;
            setting_is = k.setting_is;
            may = k.may;
            code = k.code;
            class = k.class;
            idle = k.idle;
            point = (
              its_own_on same hash asks w caller setting c blocks keys Unchanged (blocks.table f.0) f.3.1 row uses call k.point.0,
              late_copier_past began (copiers.standing p (copies.Retires settle rest)) settle rest k.point.1.setting_is f,
            );
          }

  -- Its call knows what it is to know in its table, or in one that the root has left: the table that is to be retired is known, the call has unlinked
  -- it, and once it is handed over the call knows what it is to know once that row is over.
  module _ {Q : Type 0} (asks : Q → K → Bool) (keys : K → Bool) (began : ℕ) (change : Change) (call : KeyCall K V Q) (p : Copier) (settle : Settle) (rest : ℕ)
      (k : KnowsOfCall same hash asks setting caller w c blocks keys began change (points.standing call (at.Copies (copiers.standing p (copies.Retires settle rest))))) where
    pub record RetiresTable : Type 0 where
      pub t : ℕ
      pub made : t < c.past
      pub known : blocks.table_known t ≡ true
      pub its : IsToRetire w caller setting settle (blocks.table t)
      pub knows : (row : ℕ → Row) (uses : ℕ → Use) → KnowsOfCall same hash asks setting caller (handed_over w (blocks.table t) row uses) c blocks keys began change (points.standing call (at.Copies (table_retired p rest)))

    pub retires_table : RetiresTable
    retires_table = elim k [
      | inl fresh ↦ let f = fresh.point.2.point in record {
        t = f.0;
        made = (let l = f.1.0 in let m = f.1.1.made in omega (arith, l, m));
        known = (f.1.3 f.0 (omega arith) f.1.0).0;
        its = f.2;
        knows = λ row uses. inl (call_past row uses asks keys call p settle rest change fresh);
      }
      | inr late ↦ let f = late.1.point.1.point in record {
        t = f.0;
        made = (let l = f.2.0 in let m = f.2.1.made in omega (arith, l, m));
        known = (f.2.4 f.0 (omega arith) f.2.0).0;
        its = f.3;
        knows = λ row uses. inr (late.0, late_call_past row uses asks keys call p settle rest began late.1);
      }
    ]
