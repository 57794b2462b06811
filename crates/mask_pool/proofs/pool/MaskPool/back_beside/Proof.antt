-- `back_beside` meets its contract: a walk of its code by hand, and then the law of the loan (`LentBeside`).
use Rattle.mask_pool.proofs.Steps.{◌≡◌, ℕ, ◌+◌, ◌-◌, ◌*◌, ◌^◌, ◌<◌, ◌≤◌, List, [], ◌∷◌, ◌++◌, length, take, sym, refl, ap, subst, ◌∙◌, arith, length-drop, w64, MutBor, drop_words, take-append-drop, proved, full_share, Body, named, seq, assign, place, rv_opd, copy, return, Val, vstruct, vcons, vnil, emp, id⊢, Lft, GName, ftrue, fsep, flft, fobs, fbor, fact, fact_i, tables, ‵, raw, ◌⊛◌, some, later, at_ret, ◌$◌, ◌∵◌, !, qed, move, keep, drop, use0, use1, use2, split, split3, join, pick, await, fsplit, fjoin, fpack, feq_i, rewrite, suffices, done, Arr, Borrowed, whole, sub, agg, stop, fld, addr, hop, from, lit, of_opd, bin, and_then, no_more, first, blocks, exec, returns, enter, alloc_all, pass_all, free_all, look_at, look_in_at, get, through, sets, sets_last, lands_as, env, Array, u64, usize, uint_Copied, yes, no, follows, follows_then, mem, uint_vals, uint_Tells, uint_Makes, RattleType, owns, Valss, Bor, MutRef, mut_vals, mut_Tells, pure_i, pure_l, plain, mut_ref_to, MutSlice, ShrSlice, Room, slice_val, mut_slice_at, coded_holeys, heres, nothing, owned, heard, only, shape, within, tuple_type, Lasts, lasts, calls_at, triple_of, framed, needs, Stays, stay_dropped, walk_of, ends_at, Goes-dropped, Goes-spent_ref, at, at_mul, length-take-le}
use Rattle.std.specs.Prelude.{slice_range}
use Rattle.mask_pool.specs.Region.{Region}
use Rattle.mask_pool.specs.Loan.{with_words}
use Rattle.mask_pool.specs.contracts.pool.MaskPool.{the_row as R}
use Rattle.mask_pool.proofs.LentBeside.{lends_back}
use Rattle.mask_pool.proofs.PartLaws.{length-range, range-front, range-back}
use Rattle.mask_pool.proofs.RegionLaws.{with_words-behind}
use Rattle.mask_pool.specs.contracts.pool.MaskPool.words_between as g
use Rattle.mask_pool.proofs.pool.MaskPool.words_between.Met.{met}
use Rattle.mask_pool.specs.contracts.pool.MaskPool.back_beside as f
use Rattle.mask_pool.proofs.pool.MaskPool.back_beside.Statement.{statement}
use Rattle.mask_pool.proofs.pool.MaskPool.back_beside.Code as code

-- nothing is left of the parameters at the return
abbrev stayed : Stays (f.ended).signature.params (f.ended).kept
stayed = (stay_dropped (mut_ref_to (0 ∷ []) tt (plain (λ _. R))) no, (stay_dropped (plain (λ _. usize)) yes, (stay_dropped (plain (λ _. usize)) yes, (stay_dropped (plain (λ _. usize)) yes, tt))))

-- the code after the `unsafe` block
abbrev after_block : Body
after_block = seq (assign (place 0 []) (rv_opd (copy (place 8 [])))) return

-- the result's parts
abbrev Two : Lft → List RattleType
Two κ = MutSlice (named 0) κ u64 ∷ ShrSlice (named 0) κ u64 ∷ []

pub back_beside_spec : {M : Type 1} → statement M
back_beside_spec 𝓤 𝓛 𝓜 𝓡 wired =
    let c = f.clauses 𝓛 𝓜.mem 𝓡.returns in let W = walk_of 𝓛 f.ended stayed c in let 𝓣 = tables 𝓤 𝓛.H 𝓜 𝓡 𝓡.env in
    let goes = Goes-dropped 𝓛 1 (plain (λ _. usize)) yes (λ κs x w. refl) in
    proved 𝓛 f.ended stayed c 𝓜 𝓡 (Goes-spent_ref 𝓛 1 (0 ∷ []) tt (plain (λ _. R)), (goes, (goes, (goes, tt))))
    f.Key.name code.function (code.unfolded 𝓤 𝓛.H 𝓜 𝓡 wired)
    (λ κs. (mut_vals, (uint_vals w64, (uint_vals w64, (uint_vals w64, tt))))) (λ κs. (mut_Tells (named 0) κs.0 R, (uint_Tells w64, (uint_Tells w64, (uint_Tells w64, tt)))))
    (λ κs qs bounds a _ are.
    let κ = κs.0 in let q = qs.0 in let pool = a.0 in let p : Region = pool.now in let start : ℕ = a.1.0 in let mid : ℕ = a.1.1.0 in let end : ℕ = a.1.1.1.0 in
    needs 𝓤 ((start ≤ mid) × (mid ≤ end) × (end ≤ length p.words)) _ (λ asked.
    let number : ℕ → List Val = uint_vals w64 in
    let y : W.Ghost = ((κs, qs, bounds, a, (mut_vals pool, (number start, (number mid, (number end, tt))))), tt) in
    let G = triple_of 𝓛 g.signature (g.spec 𝓛 𝓜.mem 𝓡.returns) in
    let z : G.Ghost = (((κ, tt), (q, tt), tt, (pool, (start, (end, tt))), (mut_vals pool, (number start, (number end, tt)))), tt) in
    qed 𝓛 ((‵ (flft κ q) ⊛ ‵ ftrue) ∷ ‵ (owns (MutRef (named 0) κ R ∷ usize ∷ usize ∷ usize ∷ []) a y.0.4) ∷ []) ∵
    enter ! _ _ _ _ _ $ alloc_all ! (λ l. pass_all ! refl ((tt, tt), ((tt, record { fits = are.1.0.1 }), ((tt, record { fits = are.1.1.0.1 }), ((tt, record { fits = are.1.1.1.0.1 }), tt)))) $
    sets ! (addr ! (through ! refl (stop !))) refl (tt, tt) $
    move ! (1 ∷ []) $ fsplit ! $ move ! (1 ∷ []) $ drop ! $
    -- [the reference; the tokens]
    -- let words = self.words_between(start, end);
    nothing ! $ owned ! usize _ (uint_Makes 𝓛 w64) end _ (refl, are.1.1.1.0.1) $ fjoin ! $ owned ! usize _ (uint_Makes 𝓛 w64) start _ (refl, are.1.0.1) $ fjoin ! $ move ! (1 ∷ 0 ∷ []) $ fjoin ! $
    move ! (1 ∷ 0 ∷ []) $ join ! $ use0 𝓛 (raw (fact 𝓤 ((start ≤ end) × (end ≤ length p.words)))) (fact_i 𝓤 _ (emp 𝓤) (omega arith, asked.2)) $ move ! (1 ∷ 0 ∷ []) $ join ! $ use1 𝓛 (raw (G.pre z)) (id⊢ 𝓤 (G.pre z)) $
    calls_at ! (framed 𝓤 𝓛.H 𝓜 𝓣) G (met 𝓤 𝓛 𝓜 𝓡 (code.calls-mask_pool::pool::MaskPool::words_between 𝓡.env wired)) z
    (and_then ! (get ! refl) (and_then ! (get ! refl) (and_then ! (get ! refl) (no_more !)))) (λ v.
    use1 𝓛 (later (some (λ (r : MutBor (List ℕ)). ((‵ (flft κ q) ⊛ ‵ ftrue) ⊛ ‵ ((MutSlice (named 0) κ u64).own_val r (v ∷ []))) ⊛ some (λ (ws : Lasts g.ended (κ, tt) (pool, (start, (end, tt)))).
    ‵ (lasts g.ended (κ, tt) (pool, (start, (end, tt))) ws) ⊛ (‵ (follows R (Array u64 0) pool.ghost_name r.ghost_name (with_words p start)) ⊛ raw (fact 𝓤 (r.now ≡ slice_range p.words start end))))))) (id⊢ 𝓤 _) $
    await ! tt $ pick ! (λ r. split ! $ move ! (1 ∷ []) $ pick ! (λ _. split3 ! $ drop ! $ move ! (1 ∷ []) $ heard ! (r.now ≡ slice_range p.words start end) (λ is. move ! (1 ∷ []) $ split ! $ move ! (1 ∷ []) $ fsplit ! $
    pure_l ! (mut_slice_at u64 r (v ∷ [])) (λ known.
    let xs : List ℕ = r.now in let b : ℕ = r.ref_ptr.0 in let o : ℕ = r.ref_ptr.1 in let γ : GName = r.ghost_name in let m : ℕ = mid - start in let n : ℕ = end - mid in
    let front : List ℕ = take m xs in let back : List ℕ = drop_words m xs in
    let all : length xs ≡ end - start = length-range p.words xs start mid end is asked.0 asked.1 asked.2 in
    let front_is : front ≡ slice_range p.words start mid = range-front p.words xs start mid end is asked.0 asked.1 asked.2 in
    let back_is : back ≡ slice_range p.words mid end = range-back p.words xs start mid end is asked.0 asked.1 asked.2 in
    let front_len : length front ≡ m = length-take-le m xs (omega arith) in
    let back_len : length back ≡ n = omega (arith, length-drop m xs) in
    let behind : ℕ = at o 8 (length front) in
    let place : behind ≡ m * 8 + o = at_mul o 8 (length front) ∙ ap (λ (k : ℕ). k * 8 + o) front_len in
    let count : length xs < 2 ^ 64 = known.1.0 in
    let bytes : length xs * 8 < 2 ^ 63 = known.1.1 in
    let offset : m * 8 < 2 ^ 64 = omega arith in
    let m_fits : m < 2 ^ 64 = omega arith in
    let n_fits : n < 2 ^ 64 = omega arith in
    let lent : GName → MutBor (List ℕ) = λ δ. record { ref_ptr = (b, behind); ghost_name = δ; now = back } in
    let ends : (ws : List ℕ) → with_words p start (front ++ ws) ≡ with_words p mid ws = λ ws. ap (λ (fs : List ℕ). with_words p start (fs ++ ws)) front_is ∙ with_words-behind p start mid ws asked.0 (omega arith) in
    let read : Bor (List ℕ) = record { ref_ptr = (b, o); now = front } in
    let u : Val = vstruct (vcons (slice_val (b, m * 8 + o) n) (vcons (slice_val (b, o) m) vnil)) in
    -- [the words' borrow; the tokens; how the pool follows]
    lands_as ! (ap only known.0) refl (tt, (tt, (record { fits = count }, tt))) $
    -- let first = words.as_mut_ptr();
    sets ! (addr ! (from ! (fld ! refl (hop ! (look_in_at ! 5 (sub ! 0 refl (whole !))) (stop !))))) refl (tt, tt) $
    first ! $ blocks ! $
    -- slice::from_raw_parts_mut(first.add(mid - start), end - mid)
    sets ! (bin ! (get ! refl) (get ! refl) asked.0) refl (tt, record { fits = m_fits }) $
    sets ! (bin ! (get ! refl) (lit ! tt) (record { fits = offset })) refl (tt, record { fits = offset }) $
    sets ! (bin ! (get ! refl) (get ! refl) tt) refl (tt, tt) $
    sets ! (bin ! (get ! refl) (get ! refl) asked.1) refl (tt, record { fits = n_fits }) $
    sets ! (agg ! (and_then ! (get ! refl) (and_then ! (get ! refl) (no_more !)))) refl (tt, (tt, (record { fits = n_fits }, tt))) $
    -- slice::from_raw_parts(first, mid - start)
    sets ! (bin ! (get ! refl) (get ! refl) asked.0) refl (tt, record { fits = m_fits }) $
    sets ! (agg ! (and_then ! (get ! refl) (and_then ! (get ! refl) (no_more !)))) refl (tt, (tt, (record { fits = m_fits }, tt))) $
    sets_last ! (agg ! (and_then ! (get ! refl) (and_then ! (get ! refl) (no_more !)))) refl (tt, ((tt, (record { fits = n_fits }, tt)), ((tt, (record { fits = m_fits }, tt)), tt))) $
    exec ! 𝓣.C 𝓣.Λ (env code.Mir.locals l) after_block (at_ret _ (W.post y)) $
    sets ! (of_opd ! (get ! refl)) refl (tt, ((tt, (record { fits = n_fits }, tt)), ((tt, (record { fits = m_fits }, tt)), tt))) $
    -- the words as the front and the back
    rewrite ! 0 (λ (ws : List ℕ). ‵ (fsep (fobs γ ((coded_holeys u64).code (heres u64 ws))) (fbor κ (Borrowed (Arr (mem u64) (length ws)) b o γ)))) (sym (take-append-drop m xs)) refl $
    pure_i ! (mut_slice_at u64 (record { ref_ptr = (b, o); ghost_name = γ; now = front ++ back }) (slice_val (b, o) (length (front ++ back)) ∷ [])) (tt, (tt, tt)) (refl, subst (λ (ws : List ℕ). Room u64 (length ws)) (sym (take-append-drop m xs)) known.1) $ fjoin ! $
    move ! (1 ∷ []) $ split ! $ move ! (2 ∷ 0 ∷ []) $
    use2 𝓛 (later (some (λ (δ : GName). ‵ ((MutSlice (named 0) κ u64).own_val (lent δ) (slice_val (b, behind) (length back) ∷ [])) ⊛ ‵ ((ShrSlice (named 0) κ u64).own_val read (slice_val (b, o) (length front) ∷ [])) ⊛ ‵ (flft κ q) ⊛ ‵ (follows (Array u64 0) (Array u64 0) γ δ (λ ws. front ++ ws)))))
    (lends_back 𝓛 u64 (named 0) (named 0) κ ((uint_Copied 𝓛 w64).shares full_share κ) q b o γ front back (omega arith, omega arith) (omega arith, omega arith) (slice_val (b, o) (length (front ++ back)) ∷ [])) $ await ! tt $ pick ! (λ δ. split3 ! $
    -- how the pool follows the back
    move ! (2 ∷ []) $ split ! $ move ! (5 ∷ 1 ∷ []) $
    use2 𝓛 (‵ (follows R (Array u64 0) pool.ghost_name δ (λ ws. with_words p start (front ++ ws)))) (follows_then 𝓛 R (Array u64 0) (Array u64 0) (with_words p start) (λ ws. front ++ ws) pool.ghost_name γ δ) $
    rewrite ! 0 (λ (F : List ℕ → Region). ‵ (follows R (Array u64 0) pool.ghost_name δ F)) (λ i ws. ends ws i) refl $
    -- [how the pool follows; the token; the back; the front; true]: the two parts as one result
    move ! (2 ∷ 3 ∷ []) $ nothing ! $ move ! (2 ∷ 0 ∷ []) $ fjoin ! $ move ! (1 ∷ 0 ∷ []) $ fjoin ! $
    feq_i ! (List Val) (u ∷ []) (vstruct (vcons (slice_val (b, behind) (length back)) (vcons (slice_val (b, o) (length front)) vnil)) ∷ []) (λ k. vstruct (vcons (slice_val (b, sym place k) (sym back_len k)) (vcons (slice_val (b, o) (sym front_len k)) vnil)) ∷ []) $ fjoin ! $
    fpack ! (Valss (Two κ)) (within (shape (tuple_type (Two κ))) (lent δ, (read, tt)) (u ∷ [])) (slice_val (b, behind) (length back) ∷ [], (slice_val (b, o) (length front) ∷ [], tt)) $
    returns ! (look_at ! 0 refl) $ free_all ! refl $ keep ! (2 ∷ 0 ∷ 1 ∷ []) $
    suffices ! _ (ends_at 𝓛 f.ended stayed c y u (lent δ, read) (tt, (tt, (tt, (tt, tt)))) (tt, (tt, (tt, (tt, tt))))) $
    use0 𝓛 (raw (fact 𝓤 ((back ≡ slice_range p.words mid end) × (front ≡ slice_range p.words start mid)))) (fact_i 𝓤 _ (emp 𝓤) (back_is, front_is)) $ move ! (3 ∷ 0 ∷ []) $ join ! $ move ! (1 ∷ 2 ∷ []) $
    move ! (1 ∷ []) $ nothing ! $ nothing ! $ fjoin ! $ nothing ! $ fjoin ! $ nothing ! $ fjoin ! $ nothing ! $ fjoin ! $ join ! $ nothing ! $ move ! (2 ∷ 0 ∷ []) $ join ! $ join ! $ done !)))))))))
