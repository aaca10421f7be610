-- Plans that do what each call says keep the promise, from their opening on.
use Rattle.std.proofs.Common.{◌≡◌, ℕ, ◌+◌, ◌^◌, ◌<◌, ◌≤◌, Bool, true, false, cond, ◌&&◌, eqb, List, [], ◌∷◌, ◌++◌, length, Some, None, Ok, Err, Option, sym, refl, ap, ◌∙◌, subst, mul-le-mul, arith}
use mathlib.Core.Path.{subst⁻¹}
use mathlib.Core.Option as option
use Rattle.std.proofs.lemmas.Bool.{both_ways, eqb-true, eqb-false}
use Rattle.std.proofs.lemmas.List.{length-replicate, length-append}
use Rattle.floor.specs.Meaning.{Meaning, Lawful}
use Rattle.network.specs.Plans.{Feasible}
use Rattle.labelling.specs.Steps.{Move, step, made_all}
use Rattle.calls.specs.declared.Unfit.TheVariants.{Length, Load, Unfinished}
use Rattle.calls.specs.Events.{Answer, Event, loaded, stepped, ran, told_total, told_moves, told_trays, told_cut, History, at, base, since, marked}
use Rattle.calls.specs.Law.{RightMoves, most_moves, NoPlanCarriesMore, ShowsCut, Carried, Says, EveryCallRight}
use Rattle.calls.specs.Does.{Held, held, is_plan, load_answer, tray_list, step_does, lane_byte, station_byte, cut_answer, trays_answer, read_into, Does}
use Rattle.calls.specs.Kept.{Kept, OpeningsKeepThePromise, CallsKeepThePromise}
use Rattle.calls.proofs.SameTrays.{list_ends, same_trays, all_made_ends}
use Rattle.calls.proofs.Loads.{passed_is_plan, plan_passes, no_trays_are_plan}
use Rattle.calls.proofs.Moves.{rights_append, made_append, made_one, rights_few, moved_not_most, finished_most}
use Rattle.calls.proofs.Runs.{Sound, after, right_after, trays_after, sound_after, step_none, step_some, Along, run_along}
use Rattle.calls.proofs.CutsRead.{cut_shown}

-- ---- a plan that was just opened

pub openings_keep_the_promise : OpeningsKeepThePromise
unfolding made_all
openings_keep_the_promise M laws = record {
  calls = tt;
  carried = record {
    moves = [];
    right = tt;
    counted = refl;
    few = omega arith;
    one_each = length-replicate M.floor.lanes 0;
    changed = λ e l. refl;
    feasible = no_trays_are_plan M;
  };
  counted = refl;
  finished = refl;
  no_path = λ e. absurd (both_ways false refl e);
}

-- ---- the last accepted load

base_plan : (M : Meaning) (h : History) → EveryCallRight M h → (length (base M h) ≡ M.floor.lanes) × Feasible M (at (base M h))
base_plan M [] r = (length-replicate M.floor.lanes 0, no_trays_are_plan M)
base_plan M (loaded xs (Ok x) ∷ h) r = r.0.2
base_plan M (loaded xs (Err e) ∷ h) r = base_plan M h r.1
base_plan M (stepped p ∷ h) r = base_plan M h r.1
base_plan M (ran b n f ∷ h) r = base_plan M h r.1
base_plan M (told_total n ∷ h) r = base_plan M h r.1
base_plan M (told_moves n ∷ h) r = base_plan M h r.1
base_plan M (told_trays xs p ys ∷ h) r = base_plan M h r.1
base_plan M (told_cut ls ss p ls' ss' ∷ h) r = base_plan M h r.1

-- a counter of 64 bits holds the moves of every floor
most_below : (M : Meaning) → Lawful M → most_moves M < 2 ^ 64
most_below M laws =
    let l : M.floor.lanes ≤ 64 = laws.rules.few_lanes in
    let a = mul-le-mul l l in
    let b = mul-le-mul l a in
    omega arith

-- ---- every call

module _ (M : Meaning) (laws : Lawful M) (h : History) (s : Held) (k : Kept M h s) where
  carried_is : at s.trays ≡ made_all k.carried.moves (at (base M h))
  carried_is =
      let b = base_plan M h k.calls in
      same_trays M.floor.lanes (at s.trays) (made_all k.carried.moves (at (base M h)))
      (list_ends s.trays M.floor.lanes k.carried.one_each)
      (all_made_ends M k.carried.moves (at (base M h)) k.carried.right (list_ends (base M h) M.floor.lanes b.0)) k.carried.changed

  sound : Sound M s
  sound = record { one_each = k.carried.one_each; feasible = k.carried.feasible; no_path = λ e. k.no_path (sym k.finished ∙ e) }

  -- ---- moves more

  module _ (ws : List Move) (right : RightMoves M (at s.trays) ws) where
    all_right : RightMoves M (at (base M h)) (k.carried.moves ++ ws)
    all_right = rights_append M k.carried.moves ws (at (base M h)) k.carried.right (subst (λ f. RightMoves M f ws) carried_is right)

    all_counted : length (k.carried.moves ++ ws) ≡ since h + length ws
    all_counted = length-append k.carried.moves ws ∙ ap (λ n. n + length ws) k.carried.counted

    all_few : since h + length ws ≤ most_moves M
    all_few = subst (λ n. n ≤ most_moves M) all_counted (rights_few M laws (k.carried.moves ++ ws) (at (base M h)) (base_plan M h k.calls).1 all_right)

    carried_on : (e : Event) (t : Held) → base M (e ∷ h) ≡ base M h → since (e ∷ h) ≡ since h + length ws → Sound M t
        → at t.trays ≡ made_all ws (at s.trays) → Carried M (e ∷ h) t.trays
    carried_on e t b n ok leads = record {
      moves = k.carried.moves ++ ws;
      right = subst⁻¹ (λ xs. RightMoves M (at xs) (k.carried.moves ++ ws)) b all_right;
      counted = all_counted ∙ sym n;
      few = subst⁻¹ (λ n. n ≤ most_moves M) n all_few;
      one_each = ok.one_each;
      changed = λ e l.
          ap (λ f. f e) (leads ∙ ap (made_all ws) carried_is ∙ sym (made_append k.carried.moves ws (at (base M h)))
          ∙ ap (λ xs. made_all (k.carried.moves ++ ws) (at xs)) (sym b));
      feasible = ok.feasible;
    }

  -- ---- a call that leaves the plan as it is

  carried_still : (e : Event) → base M (e ∷ h) ≡ base M h → since (e ∷ h) ≡ since h → Carried M (e ∷ h) s.trays
  unfolding made_all
  carried_still e b n = carried_on [] tt e s b (n ∙ omega arith) sound refl

  same : (e : Event) → base M (e ∷ h) ≡ base M h → since (e ∷ h) ≡ since h → marked (e ∷ h) ≡ marked h → Says M h s.trays e → Kept M (e ∷ h) s
  same e b n d says = record {
    calls = ((s.trays, k.carried, says), k.calls);
    carried = carried_still e b n;
    counted = k.counted ∙ sym n;
    finished = k.finished ∙ sym d;
    no_path = λ q. k.no_path (sym d ∙ q);
  }

  -- ---- loads

  load_says : (ys : List ℕ) → Says M h s.trays (loaded ys (load_answer M ys))
  load_says ys = by (eqb (length ys) M.floor.lanes) (is_plan M (at ys)) refl refl
    where
      by : (a b : Bool) → eqb (length ys) M.floor.lanes ≡ a → is_plan M (at ys) ≡ b
          → Says M h s.trays (loaded ys (cond a (cond b (Ok tt) (Err Load)) (Err Length)))
      by true true p q = (eqb-true (length ys) M.floor.lanes p, passed_is_plan M (at ys) q)
      by true false p q = (eqb-true (length ys) M.floor.lanes p, λ f. both_ways (is_plan M (at ys)) q (plan_passes M (at ys) f))
      by false b p q = eqb-false (length ys) M.floor.lanes p

  load_right : (ys : List ℕ) (r : Answer) → r ≡ load_answer M ys → Says M h s.trays (loaded ys r)
  load_right ys r q = subst⁻¹ (λ r. Says M h s.trays (loaded ys r)) q (load_says ys)

  load_kept : (ys : List ℕ) (x : Unit {0}) → (length ys ≡ M.floor.lanes) × Feasible M (at ys) → Kept M (loaded ys (Ok x) ∷ h) (held ys 0 false)
  unfolding made_all
  load_kept ys x says = record {
    calls = ((s.trays, k.carried, says), k.calls);
    carried = record {
      moves = [];
      right = tt;
      counted = refl;
      few = omega arith;
      one_each = says.0;
      changed = λ e l. refl;
      feasible = says.1;
    };
    counted = refl;
    finished = refl;
    no_path = λ e. absurd (both_ways false refl e);
  }

  -- ---- steps

  step_kept : (r : Option (ℕ × ℕ)) (t : Held) → ◌≡◌ {A = Option (ℕ × ℕ) × Held} (r, t) (step_does M s) → Kept M (stepped r ∷ h) t
  step_kept r t d = by (step M (at s.trays)) refl
    where
      by : (o : option.Option Move) → step M (at s.trays) ≡ o → Kept M (stepped r ∷ h) t
      by option.none q =
          subst⁻¹ (λ (p : Option (ℕ × ℕ) × Held). Kept M (stepped p.0 ∷ h) p.1) (d ∙ step_none M laws s sound q) (record {
            calls = ((s.trays, k.carried, finished_most M laws (at s.trays) k.carried.feasible q), k.calls);
            carried = carried_still (stepped None) refl refl;
            counted = k.counted;
            finished = refl;
            no_path = λ e. q;
          })
      by (option.some v) q =
          let right = right_after M laws s sound v q in
          let few = all_few (v ∷ []) (right, tt) in
          subst⁻¹ (λ (p : Option (ℕ × ℕ) × Held). Kept M (stepped p.0 ∷ h) p.1) (d ∙ step_some M laws s sound v q) (record {
            calls = ((s.trays, k.carried, ((v, right, refl, refl), moved_not_most M laws (at s.trays) k.carried.feasible v q)), k.calls);
            carried = carried_on (v ∷ []) (right, tt) (stepped (Some (v.amount, length v.lanes))) (after M laws s sound v) refl (omega arith) (sound_after M laws s sound v q)
                (trays_after M laws s sound v q ∙ sym (made_one v (at s.trays)));
            counted = omega (arith, k.counted, few, most_below M laws);
            finished = refl;
            no_path = λ e. absurd (both_ways false refl e);
          })

  -- ---- runs

  run_kept : (b n : ℕ) (f : Bool) (t : Held) → f ≡ t.finished → Along M b s n t → Kept M (ran b n f ∷ h) t
  run_kept b n f t mark a = record {
    calls = ((s.trays, k.carried, by f mark), k.calls);
    carried = carried_on a.moves a.right (ran b n f) t refl (ap (λ j. since h + j) (sym a.count)) a.sound a.leads;
    counted = a.told (omega (arith, k.counted, a.count, few, most_below M laws)) ∙ ap (λ j. j + n) k.counted;
    finished = sym mark;
    no_path = λ e. a.sound.no_path (sym mark ∙ e);
  }
    where
      few : since h + length a.moves ≤ most_moves M
      few = all_few a.moves a.right

      by : (f : Bool) → f ≡ t.finished → Says M h s.trays (ran b n f)
      by true m = (
        (
          a.moves,
          a.right,
          a.count,
          subst (NoPlanCarriesMore M) a.leads (finished_most M laws (at t.trays) a.sound.feasible (a.sound.no_path (sym m))),
        ),
        a.within,
      )
      by false m =
          let all = a.all (sym m) in
          ((a.moves, a.right, a.count), all, omega (arith, all, a.count, few))

  -- ---- readings

  trays_say : (xs ys : List ℕ) (r : Answer) → r ≡ trays_answer M xs → ys ≡ read_into r s.trays xs → Says M h s.trays (told_trays xs r ys)
  trays_say xs ys r q =
      subst⁻¹ (λ r. ys ≡ read_into r s.trays xs → Says M h s.trays (told_trays xs r ys)) q (by (eqb (length xs) M.floor.lanes) refl)
    where
      by : (b : Bool) → eqb (length xs) M.floor.lanes ≡ b → ys ≡ read_into (cond b (Ok tt) (Err Length)) s.trays xs
          → Says M h s.trays (told_trays xs (cond b (Ok tt) (Err Length)) ys)
      by true p e = (eqb-true (length xs) M.floor.lanes p, e)
      by false p e = (eqb-false (length xs) M.floor.lanes p, e)

  module _ (ls ss ls' ss' : List ℕ) where
    -- the buffers after the reading
    abbrev Read : Answer → Type 0
    Read r =
        (ls' ≡ read_into r (tray_list M.floor.lanes (lane_byte M (at s.trays))) ls)
        × (ss' ≡ read_into r (tray_list M.floor.stations (station_byte M (at s.trays))) ss)

    cut_says : (f a b : Bool) → s.finished ≡ f → eqb (length ls) M.floor.lanes ≡ a → eqb (length ss) M.floor.stations ≡ b
        → Read (cond f (cond (a && b) (Ok tt) (Err Length)) (Err Unfinished))
        → Says M h s.trays (told_cut ls ss (cond f (cond (a && b) (Ok tt) (Err Length)) (Err Unfinished)) ls' ss')
    cut_says true true true o p q e = (
      sym k.finished ∙ o,
      eqb-true (length ls) M.floor.lanes p,
      eqb-true (length ss) M.floor.stations q,
      subst⁻¹ (λ l. ShowsCut M (at s.trays) l ss') e.0
          (subst⁻¹ (ShowsCut M (at s.trays) (tray_list M.floor.lanes (lane_byte M (at s.trays)))) e.1
          (cut_shown M laws (at s.trays) sound.feasible (sound.no_path o))),
    )
    cut_says true true false o p q e = (sym k.finished ∙ o, λ g. eqb-false (length ss) M.floor.stations q g.1, e.0, e.1)
    cut_says true false b o p q e = (sym k.finished ∙ o, λ g. eqb-false (length ls) M.floor.lanes p g.0, e.0, e.1)
    cut_says false a b o p q e = (sym k.finished ∙ o, e.0, e.1)

    cut_right : (r : Answer) → r ≡ cut_answer M s ls ss → Read r → Says M h s.trays (told_cut ls ss r ls' ss')
    cut_right r q =
        subst⁻¹ (λ r. Read r → Says M h s.trays (told_cut ls ss r ls' ss')) q
        (cut_says s.finished (eqb (length ls) M.floor.lanes) (eqb (length ss) M.floor.stations) refl refl refl)

  keeps : (e : Event) (t : Held) → Does M s e t → Kept M (e ∷ h) t
  keeps (loaded ys (Ok x)) t d = subst⁻¹ (Kept M (loaded ys (Ok x) ∷ h)) d.1 (load_kept ys x (load_right ys (Ok x) d.0))
  keeps (loaded ys (Err u)) t d = subst⁻¹ (Kept M (loaded ys (Err u) ∷ h)) d.1 (same (loaded ys (Err u)) refl refl refl (load_right ys (Err u) d.0))
  keeps (stepped r) t d = step_kept r t d
  keeps (ran b n f) t d =
      run_kept b n f t d.1 (subst⁻¹ (λ (p : ℕ × Held). Along M b s p.0 p.1) d.0 (run_along M laws b s sound))
  keeps (told_total n) t d = subst⁻¹ (Kept M (told_total n ∷ h)) d.1 (same (told_total n) refl refl refl d.0)
  keeps (told_moves n) t d =
      subst⁻¹ (Kept M (told_moves n ∷ h)) d.1
      (same (told_moves n) refl refl refl (d.0 ∙ k.counted, subst⁻¹ (λ j. j ≤ most_moves M) (d.0 ∙ k.counted) k.carried.few))
  keeps (told_trays xs r ys) t d = subst⁻¹ (Kept M (told_trays xs r ys ∷ h)) d.2 (same (told_trays xs r ys) refl refl refl (trays_say xs ys r d.0 d.1))
  keeps (told_cut ls ss r ls' ss') t d =
      subst⁻¹ (Kept M (told_cut ls ss r ls' ss' ∷ h)) d.3
      (same (told_cut ls ss r ls' ss') refl refl refl (cut_right ls ss ls' ss' r d.0 (d.1, d.2)))

pub calls_keep_the_promise : CallsKeepThePromise
calls_keep_the_promise M h s t e laws k d = keeps M laws h s k e t d
