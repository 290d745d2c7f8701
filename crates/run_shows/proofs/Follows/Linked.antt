-- A table was linked behind the last one, or has become the root.
use Rattle.std.specs.Prelude.{◌≡◌, ℕ, zero, suc, ◌<◌, ◌≤◌, ◌==◌, Bool, true, false, cond, List, [], ◌∷◌, ◌++◌, length, filter, find, map, Option, Some, None, if◌then◌else◌, ◌⊎◌}
use Rattle.std.proofs.Common.{refl, ap, sym, subst, ◌∙◌, arith, inl, inr}
use Rattle.std.proofs.lemmas.Bool.{eq-eqb, cases_eq}
use Rattle.std.proofs.lemmas.List.Elements.{filter-append}
use Rattle.seize_words.specs.OneMemory.Mem.{Mem, value_at}
use Rattle.seize.specs.World.{World}
use Rattle.run_effects.specs.Given.RunsDeclared.shapes.TableShape.{TableShape}
use Rattle.run_effects.specs.Given.TablesDeclared.node.Node.{Node}
use Rattle.run_effects.specs.Given.TablesDeclared.node.Node.TheVariants as node
use Rattle.run_effects.specs.Given.RunsDeclared.effect.Effect.{Effect}
use Rattle.run_effects.specs.Given.RunsDeclared.effect.Effect.TheVariants.{Linked, Promoted}
use Rattle.run_effects.specs.Given.RunsDeclared.effect.TableId.{TableId}
use Rattle.run_effects.specs.Given.SchedulesEntry.{acting}
use Rattle.run_effects.specs.Given.SchedulesEffects.{promoted, stored_by, with_effect}
use Rattle.run_effects.specs.Given.SchedulesLists.{put}
use Rattle.run_effects.specs.Given.SchedulesMoment.{IsLinked, Stage, MapThere, TableThere, UnderWay, Moment}
use Rattle.run_effects.specs.Given.SchedulesViews.{tables_of}
use Rattle.run_effects.specs.Given.RuleChart.{Chart}
use Rattle.run_effects.specs.Given.RuleWords.{Blocks}
use Rattle.run_effects.specs.Given.RuleInWorld.{IsMapIn, StepSpec}
use Rattle.many_maps.specs.Given.PointsSteps.{AreLawful}
use Rattle.many_maps.specs.Given.CallersSights.{Visible, seen_by, IsGrown, IsVisibility}
use Rattle.many_maps.specs.Given.CallersTogether.{in_slot}
use Rattle.many_maps.specs.Maps.{Standing}
use Rattle.run_effects.specs.Effects.Known.{Known, with_role}
use Rattle.run_effects.specs.declared.role.Role.{Role}
use Rattle.run_effects.specs.declared.role.Role.TheVariants as role
use Rattle.run_shows.specs.Follows.Blocks.{WasLinked, HasRole, RefinesBlocks}
use Rattle.run_shows.specs.Follows.Finds.{MayBeRoot}
use Rattle.run_shows.specs.Follows.Maps.{table_of, shape_at, tables_to, RefinesMap}
use Rattle.run_shows.proofs.Follows.Alike.{put_here, put_elsewhere, linked_other, promoted_other}
use Rattle.run_shows.proofs.Follows.Contents.{lasts_same}
use Rattle.run_shows.proofs.Follows.Finds.{tables_many}
use Rattle.run_shows.proofs.Follows.Kept.{role_kept}
use Rattle.run_shows.proofs.Follows.Leads.{IsNew, LeadsOn, after_step}
use Rattle.run_shows.proofs.Follows.Onward.{IsLasting, KeepsRoles, StaysPairs, StaysBlocks, blocks_grown, pairs_on, counter_on, tables_as_long}
use Rattle.run_shows.proofs.Follows.Operations.{StaysThere}
use Rattle.run_shows.proofs.Follows.Told.{once_put}
use Rattle.run_shows.proofs.Follows.Writes.{own_table}

-- neither stores a pair
none_stored : {K V : Type 0} (o : Option (UnderWay K V)) (t : TableId) (shape : TableShape) (stored : List (K × V)) → (stored_by o (Linked t shape) stored ≡ stored) × (stored_by o (Promoted t) stored ≡ stored)
none_stored None t shape stored = (refl, refl)
none_stored (Some c) t shape stored = (refl, refl)

-- the map whose root has come to a table
pub own_found : (t : TableId) (fs : List MapThere) (f : MapThere) → find (λ g. g.number == t.map) fs ≡ Some f → find (λ g. g.number == t.map) (map (promoted t) fs) ≡ Some (record f { first = t.turn })
own_found t [] f is = absurd (cc is)
own_found t (g ∷ fs) f is = by (g.number == t.map) refl (λ later. own_found t fs f later)
  where
    rest : Option MapThere
    rest = find (λ h. h.number == t.map) (map (promoted t) fs)

    Goal : Bool → Type 0
    Goal q = cond ((if q then record g { first = t.turn } else g).number == t.map) (Some (if q then record g { first = t.turn } else g)) rest ≡ Some (record f { first = t.turn })

    by : (q : Bool) → (g.number == t.map) ≡ q
        → (find (λ h. h.number == t.map) fs ≡ Some f → find (λ h. h.number == t.map) (map (promoted t) fs) ≡ Some (record f { first = t.turn })) → Goal (g.number == t.map)
    by true e further =
        let same : g ≡ f = (let here : cond true (Some g) (find (λ h. h.number == t.map) fs) ≡ Some f = ap (λ z. cond z (Some g) (find (λ h. h.number == t.map) fs)) (sym e) ∙ is in cc here) in
        subst Goal (sym e) (ap (λ z. cond z (Some (record g { first = t.turn })) rest) e ∙ ap (λ (h : MapThere). Some (record h { first = t.turn })) same)
    by false e further =
        let later : find (λ h. h.number == t.map) fs ≡ Some f = ap (λ z. cond z (Some g) (find (λ h. h.number == t.map) fs)) (sym e) ∙ is in
        subst Goal (sym e) (ap (λ z. cond z (Some g) rest) e ∙ further later)

module _ {K : Type 0} (map : ℕ) (c : Chart K) where
  -- tables whose stages are the same
  tables_staged : (stage stage2 : ℕ → Stage) (n : ℕ) → ((t : ℕ) → t < n → stage2 t ≡ stage t) → tables_to map c stage n ≡ tables_to map c stage2 n
  tables_staged stage stage2 zero same = refl
  tables_staged stage stage2 (suc t) same =
      ap (λ (ts : List TableThere). ts ++ record { table = table_of map t; shape = shape_at map c t; stage = stage t } ∷ []) (tables_staged stage stage2 t (λ u l. same u (omega (arith, l))))
      ∙ ap (λ (x : Stage). tables_to map c stage2 t ++ record { table = table_of map t; shape = shape_at map c t; stage = x } ∷ []) (sym (same t (omega arith)))

module _ {K V : Type 0} (same : K → K → Bool) (slot caller map : ℕ) (name : Option (List ℕ)) (number : ℕ → ℕ) (s : Standing K) (lawful : AreLawful same s.hash)
    (w : World (Node K V)) (sight : Visible) (is_sight : IsVisibility s.chart s.blocks sight) (is_map : IsMapIn same s.hash (in_slot s.setting slot) w s.chart (seen_by s.blocks sight))
    (m2 : Mem (Node K V)) (Told : World (Node K V) → Chart K → Blocks → Type 0)
    (went : StepSpec same s.hash (in_slot s.setting slot) caller w s.chart (seen_by s.blocks sight) m2 Told) (blocks2 : Blocks) (grown : IsGrown s.chart s.blocks went.blocks2 blocks2) (sights2 : ℕ → Visible)
    (m : Moment K V) (known : Known) (shown : RefinesMap map number s m known) (shown_blocks : RefinesBlocks m known w)
    (values : (b : ℕ) → value_at m2 b ≡ value_at w.memory b) (pairs : StaysPairs s.chart went.c2) where
  abbrev c : Chart K
  c = s.chart

  abbrev Leads : List Effect → Known → Type 0
  Leads = LeadsOn same slot caller map name number s lawful w sight is_sight is_map m2 Told went blocks2 grown sights2 m known shown shown_blocks

  abbrev s2 : Standing K
  s2 = after_step same slot caller map name number s lawful w sight is_sight is_map m2 Told went blocks2 grown sights2 m known shown shown_blocks

  blocks_on : StaysBlocks s.chart s.blocks blocks2
  blocks_on = blocks_grown s.chart s.blocks went.blocks2 blocks2 grown

  stays : (b : ℕ) → StaysThere w.memory m2 b
  stays b = record { gone = λ none. values b ∙ none; there = λ value is. (value, values b ∙ is) }

  kept : (more : List (K × V)) → more ≡ m.stored → (b : ℕ) → HasRole went.w2 more b (known.roles b)
  kept more same_so b =
      role_kept same s.hash (in_slot s.setting slot) caller w s.chart (seen_by s.blocks sight) m2 Told went is_map m.stored more (lasts_same m.stored more same_so) b (stays b) (known.roles b) (shown_blocks.roles b)

  module _ (len limit : ℕ) (some : 0 < len) (past : went.c2.past ≡ suc c.past) (first : went.c2.first ≡ c.first) (len_is : went.c2.len c.past ≡ len) (limit_is : went.c2.limit c.past ≡ limit)
      (lens : (t : ℕ) → t < c.past → (went.c2.len t ≡ c.len t) × (went.c2.limit t ≡ c.limit t)) (b : ℕ) (its_block : b ≡ went.blocks2.table c.past) where
    pub last : c.past < went.c2.past
    last = omega (arith, past)

    pub behind : went.c2.first ≤ c.past
    behind = elim (cases_eq c.past 0) as (λ _. went.c2.first ≤ c.past) [
      | inl none ↦ (let f = is_map.map.rule.common.rootless none in omega (arith, f, first))
      | inr any ↦ (let f = is_map.map.rule.common.rooted (omega (arith, any)) in omega (arith, f, first))
    ]

    holds_then : value_at went.w2.memory b ≡ Some (node.Table len limit c.past)
    holds_then =
        ap (value_at went.w2.memory) its_block ∙ (went.map.map.shows.tables c.past last (went.map.map.shows.linked c.past behind last)).value
        ∙ ap (λ (n : ℕ). Some (node.Table n (went.c2.limit c.past) c.past)) len_is ∙ ap (λ (n : ℕ). Some (node.Table len n c.past)) limit_is

    abbrev shape : TableShape
    shape = record { len = len; limit = limit }

    pub was_own : known.roles b ≡ role.OwnTable c.past shape
    was_own = own_table w m.stored known shown_blocks.roles b caller len limit c.past some (ap w.hand its_block ∙ went.links.tables c.past (omega arith) last)
        (sym (values b) ∙ ap (λ (n : Mem (Node K V)). value_at n b) (sym went.memory) ∙ holds_then)

    is_linked : WasLinked (went.w2.hand b)
    is_linked = subst WasLinked (sym (ap went.w2.hand its_block ∙ went.map.tables c.past behind last)) tt

    abbrev its_role : Role
    its_role = role.Table (table_of map c.past) len

    keeps : KeepsRoles known (with_role b its_role known)
    keeps x lasting = put_elsewhere b its_role known.roles x (λ e. subst IsLasting (ap known.roles e ∙ was_own) lasting)

    blocks_linked : (v : Moment K V) → v.stored ≡ m.stored → RefinesBlocks v (with_role b its_role known) went.w2
    blocks_linked v same_so = record {
      roles = λ x. elim (cases_eq x b) as (λ _. HasRole went.w2 v.stored x (put b its_role known.roles x)) [
        | inl e ↦ subst (λ (r : Role). HasRole went.w2 v.stored x r) (sym (put_here b its_role known.roles x e))
            (subst (λ (y : ℕ). HasRole went.w2 v.stored y its_role) (sym e) (limit, holds_then, is_linked))
        | inr ne ↦ subst (λ (r : Role). HasRole went.w2 v.stored x r) (sym (put_elsewhere b its_role known.roles x ne)) (kept v.stored same_so x)
      ];
      once = once_put known.roles b its_role (λ n e. cc e) shown_blocks.once;
      stored = shown_blocks.stored ∙ sym (ap length same_so);
    }

    abbrev v : Moment K V
    v = with_effect name (Some map) (Linked (table_of map c.past) shape) m

    abbrev stage_then : ℕ → Stage
    stage_then = put c.past IsLinked shown.tables.stage

    old_stage : (t : ℕ) → t < c.past → stage_then t ≡ shown.tables.stage t
    old_stage t l = put_elsewhere c.past IsLinked shown.tables.stage t (λ e. omega (arith, l, e))

    roles_then : (t : ℕ) → t < went.c2.past → blocks2.table_known t ≡ true → (with_role b its_role known).roles (blocks2.table t) ≡ role.Table (table_of map t) (went.c2.len t)
    roles_then t l seen = elim (cases_eq t c.past) as (λ _. put b its_role known.roles (blocks2.table t) ≡ role.Table (table_of map t) (went.c2.len t)) [
      | inl e ↦ put_here b its_role known.roles (blocks2.table t) (ap blocks2.table e ∙ (grown.new_tables c.past (omega arith)).0 ∙ sym its_block)
          ∙ ap (λ (x : ℕ). role.Table (table_of map x) len) (sym e) ∙ ap (role.Table (table_of map t)) (sym (ap went.c2.len e ∙ len_is))
      | inr ne ↦ (let l0 : t < c.past = omega (arith, l, past, ne) in let k = blocks_on.tables t l0 seen in let was = shown.tables.roles t l0 k.1 in
          ap (put b its_role known.roles) k.0 ∙ keeps (s.blocks.table t) (subst IsLasting (sym was) tt) ∙ was ∙ ap (role.Table (table_of map t)) (sym (lens t l0).0))
    ]

    listed_then : tables_of map v ≡ tables_to map went.c2 stage_then went.c2.past
    listed_then =
        filter-append (λ t. t.table.map == map) m.tables (new ∷ []) ∙ ap (λ ts. filter (λ t. t.table.map == map) m.tables ++ ts) (ap (λ q. if q then new ∷ [] else []) (eq-eqb map map refl))
        ∙ ap (λ ts. ts ++ new ∷ []) (shown.tables.listed ∙ tables_as_long map c went.c2 shown.tables.stage c.past lens ∙ tables_staged map went.c2 shown.tables.stage stage_then c.past old_stage)
        ∙ ap (λ (x : TableThere). tables_to map went.c2 stage_then c.past ++ x ∷ []) new_is ∙ ap (tables_to map went.c2 stage_then) (sym past)
      where
        new : TableThere
        new = record { table = table_of map c.past; shape = shape; stage = IsLinked }

        new_is : new ≡ record { table = table_of map c.past; shape = shape_at map went.c2 c.past; stage = stage_then c.past }
        new_is =
            ap (λ (n : ℕ). record { table = table_of map c.past; shape = record { len = n; limit = limit }; stage = IsLinked }) (sym len_is)
            ∙ ap (λ (n : ℕ). record { table = table_of map c.past; shape = record { len = went.c2.len c.past; limit = n }; stage = IsLinked }) (sym limit_is)
            ∙ ap (λ (x : Stage). record { table = table_of map c.past; shape = shape_at map went.c2 c.past; stage = x }) (sym (put_here c.past IsLinked shown.tables.stage c.past refl))

    pub leads_linked : Leads (Linked (table_of map c.past) shape ∷ []) (with_role b its_role known)
    leads_linked =
        let many : length v.stored ≡ length m.stored = ap length (none_stored (acting name m) (table_of map c.past) shape m.stored).0 in
        record {
          finds = ((refl, tables_many map number s m known shown), tt);
          number_then = number;
          numbers = λ n l. refl;
          own = record {
            there = record { there = shown.there.there; is = shown.there.is; root = shown.there.root; mode = shown.there.mode; first = shown.there.first ∙ sym first };
            pairs = pairs_on map number s s2 m v known (with_role b its_role known) blocks_on keeps pairs
                (record { place = λ k l. refl; all = λ k at. at; born = λ k l. refl; stored = omega (arith, many) }) shown.pairs;
            tables = record {
              roles = roles_then;
              stage = stage_then;
              listed = listed_then;
              linked = λ t l made. elim (cases_eq t c.past) as (λ _. stage_then t ≡ IsLinked) [
                | inl e ↦ put_here c.past IsLinked shown.tables.stage t e
                | inr ne ↦ old_stage t (omega (arith, made, past, ne)) ∙ shown.tables.linked t (omega (arith, l, first)) (omega (arith, made, past, ne))
              ];
            };
            counter = counter_on map number s s2 m v known (with_role b its_role known) blocks_on keeps refl shown.counter;
          };
          others = λ other ne. linked_other name map other ne m c.past shape (omega (arith, many));
          keeps = keeps;
          back = λ x of. elim (cases_eq x b) as (λ _. (known.roles x ≡ put b its_role known.roles x) ⊎ IsNew map c went.c2 went.blocks2 known x (put b its_role known.roles x)) [
            | inl e ↦ inr (subst (IsNew map c went.c2 went.blocks2 known x) (sym (put_here b its_role known.roles x e)) (refl, e ∙ its_block, past))
            | inr ne ↦ inl (sym (put_elsewhere b its_role known.roles x ne))
          ];
          blocks = blocks_linked v (none_stored (acting name m) (table_of map c.past) shape m.stored).0;
        }

  module _ (t : ℕ) (ahead : c.first < t) (may : MayBeRoot map m (table_of map t)) (past : went.c2.past ≡ c.past) (first : went.c2.first ≡ t) (lens : (u : ℕ) → u < c.past → (went.c2.len u ≡ c.len u) × (went.c2.limit u ≡ c.limit u)) where
    abbrev u : Moment K V
    u = with_effect name (Some map) (Promoted (table_of map t)) m

    pub leads_promoted : Leads (Promoted (table_of map t) ∷ []) known
    leads_promoted =
        let many : length u.stored ≡ length m.stored = ap length (none_stored (acting name m) (table_of map t) (record { len = 0; limit = 0 }) m.stored).1 in
        record {
          finds = ((refl, may), tt);
          number_then = number;
          numbers = λ n l. refl;
          own = record {
            there = record {
              there = record shown.there.there { first = t };
              is = own_found (table_of map t) m.maps shown.there.there shown.there.is;
              root = shown.there.root;
              mode = shown.there.mode;
              first = sym first;
            };
            pairs = pairs_on map number s s2 m u known known blocks_on (λ b lasting. refl) pairs
                (record { place = λ k l. refl; all = λ k at. at; born = λ k l. refl; stored = omega (arith, many) }) shown.pairs;
            tables = record {
              roles = λ x l seen. let l0 : x < c.past = omega (arith, l, past) in let k = blocks_on.tables x l0 seen in
                  ap known.roles k.0 ∙ shown.tables.roles x l0 k.1 ∙ ap (role.Table (table_of map x)) (sym (lens x l0).0);
              stage = shown.tables.stage;
              listed = shown.tables.listed ∙ tables_as_long map c went.c2 shown.tables.stage c.past lens ∙ ap (tables_to map went.c2 shown.tables.stage) (sym past);
              linked = λ x l made. shown.tables.linked x (omega (arith, l, first, ahead)) (omega (arith, made, past));
            };
            counter = counter_on map number s s2 m u known known blocks_on (λ b lasting. refl) refl shown.counter;
          };
          others = λ other ne. promoted_other name map other ne m t (omega (arith, many));
          keeps = λ b lasting. refl;
          back = λ b of. inl refl;
          blocks = record { roles = λ b. kept u.stored (none_stored (acting name m) (table_of map t) (record { len = 0; limit = 0 }) m.stored).1 b; once = shown_blocks.once; stored = shown_blocks.stored ∙ sym many };
        }
