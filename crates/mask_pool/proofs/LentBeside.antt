-- A `&mut` slice is cut in two, for all the time that it has left: one part is lent on to be written, and the other is shared. The
-- slice ends with what was last in the part that was lent, and the other part as it was. These are steps of the logic alone, for any
-- elements that can be shared: no code is walked here. Assumes `Logic`.
use Rattle.mask_pool.proofs.Steps.{ℕ, ◌+◌, drop_words, drop_at, List, [], ◌∷◌, ◌++◌, length, sym, refl, ap, ◌∙◌, Ura, full_share, Lifetime, Val, SProp, ent, sep, ex, emp, Gv, coded_list, Lft, GName, Share, Fml, ftrue, fseps, fhide, flft, fobs, fbor, Incl-refl, Logic, sem, ‵, raw, ◌⊛◌, some, later, ◌$◌, ◌∵◌, !, qed, move, keep, drop, use1, use2, split, split3, group, pick, await, fsplit, fsplit3, fjoin, feq_i, feq_l, rewrite, show, updating, now, done, SemTy, cells, Arr, Borrowed, open_ref, takes_beside, Array, follows, heres_id, slice_of, row, whole_out, whole_in, mem, shared_of, RattleType, pure_i, Shares, shares_each_from, MutSlice, ShrSlice, Room, slice_val, shr_slice_at, elements_shared, nothing, at, cut_app, join_app, length_app}

module _ {M : Type 1} {𝓤 : Ura M} (𝓛 : Logic 𝓤) (R : RattleType) (ℓ ℓ' : Lifetime) (κ : Lft) (shares : Shares 𝓛 R κ) (q : Share) (b o : ℕ) (γ : GName) (front back : List R.Denot) where
  open 𝓛 use {H, A}

  -- n elements in memory
  abbrev Elements : ℕ → SemTy
  Elements n = Arr (mem R) n

  -- where the back begins
  abbrev p : ℕ
  p = at o (mem R).size (length front)

  abbrev all : ℕ
  all = length (front ++ back)

  abbrev code : List R.Denot → Gv
  code = (coded_list R.coded).code

  -- the whole slice, to be written
  abbrev Whole : List Val → Fml
  Whole vs = (MutSlice ℓ κ R).own_val (record { ref_ptr = (b, o); ghost_name = γ; now = front ++ back }) vs

  -- the two parts as they lie in memory
  abbrev Front : Fml
  Front = row R full_share front b o

  abbrev Back : Fml
  Back = row R full_share back b p

  -- ws, and what is left of the slice behind them: at a front, the back
  abbrev pub onto : List R.Denot → List R.Denot
  onto ws = ws ++ drop_words (length ws) (front ++ back)

  -- any front beside the back makes a whole
  whole_with_front : (ws : List R.Denot) → ent 𝓤 (sep 𝓤 (sem 𝓛 ((Elements (length front)).own_at ws b o)) (sep 𝓤 (sem 𝓛 (fseps (Back ∷ []))) (emp 𝓤))) (sem 𝓛 ((Elements all).own_at (onto ws) b o))
  unfolding fseps
  whole_with_front ws = qed 𝓛 (‵ ((Elements (length front)).own_at ws b o) ∷ (‵ Back ⊛ ‵ ftrue) ∷ raw (emp 𝓤) ∷ []) ∵ fsplit ! $ feq_l ! (λ e. move ! (1 ∷ []) $ split ! $
      use1 𝓛 (‵ (cells (mem R) back b p)) (whole_in 𝓛 R back b p) $
      rewrite ! 0 (λ (k : ℕ). ‵ (cells (mem R) back b (at o (mem R).size k))) (sym e) refl $ move ! (2 ∷ 0 ∷ []) $ use2 𝓛 (‵ (cells (mem R) (ws ++ back) b o)) (join_app 𝓛 (mem R) ws back b o) $
      feq_i ! ℕ (length (ws ++ back)) all (length_app ws back ∙ ap (λ k. k + length back) e ∙ sym (length_app front back)) $ fjoin ! $
      rewrite ! 0 (λ (bs : List R.Denot). ‵ ((Elements all).own_at (ws ++ bs) b o)) (sym (drop_at front back (length ws) (sym e))) refl $ keep ! (0 ∷ []) $ done !)

  -- and any back behind the front
  whole_with_back : (ws : List R.Denot) → ent 𝓤 (sep 𝓤 (sem 𝓛 ((Elements (length back)).own_at ws b p)) (sep 𝓤 (sem 𝓛 (fseps (Front ∷ []))) (emp 𝓤))) (sem 𝓛 ((Elements all).own_at (front ++ ws) b o))
  unfolding fseps
  whole_with_back ws = qed 𝓛 (‵ ((Elements (length back)).own_at ws b p) ∷ (‵ Front ⊛ ‵ ftrue) ∷ raw (emp 𝓤) ∷ []) ∵ fsplit ! $ feq_l ! (λ e. move ! (1 ∷ []) $ split ! $
      use1 𝓛 (‵ (cells (mem R) front b o)) (whole_in 𝓛 R front b o) $ move ! (0 ∷ 2 ∷ []) $ use2 𝓛 (‵ (cells (mem R) (front ++ ws) b o)) (join_app 𝓛 (mem R) front ws b o) $
      feq_i ! ℕ (length (front ++ ws)) all (length_app front ws ∙ ap (λ k. length front + k) e ∙ sym (length_app front back)) $ fjoin ! $ keep ! (0 ∷ []) $ done !)

  -- the front to be written, under the name δ, and the back to be read
  abbrev pub FrontBeside : GName → SProp 𝓤
  FrontBeside δ = sep 𝓤 (sem 𝓛 ((MutSlice ℓ κ R).own_val (record { ref_ptr = (b, o); ghost_name = δ; now = front }) (slice_val (b, o) (length front) ∷ [])))
      (sep 𝓤 (sem 𝓛 ((ShrSlice ℓ' κ R).own_val (record { ref_ptr = (b, p); now = back }) (slice_val (b, p) (length back) ∷ [])))
      (sep 𝓤 (A.lft κ q) (sem 𝓛 (follows (Array R 0) (Array R 0) γ δ onto))))

  -- the back to be written, under the name δ, and the front to be read
  abbrev pub BackBeside : GName → SProp 𝓤
  BackBeside δ = sep 𝓤 (sem 𝓛 ((MutSlice ℓ κ R).own_val (record { ref_ptr = (b, p); ghost_name = δ; now = back }) (slice_val (b, p) (length back) ∷ [])))
      (sep 𝓤 (sem 𝓛 ((ShrSlice ℓ' κ R).own_val (record { ref_ptr = (b, o); now = front }) (slice_val (b, o) (length front) ∷ [])))
      (sep 𝓤 (A.lft κ q) (sem 𝓛 (follows (Array R 0) (Array R 0) γ δ (λ ws. front ++ ws)))))

  module _ (room_front : Room R (length front)) (room_back : Room R (length back)) (vs : List Val) where
    pub lends_front : ent 𝓤 (sep 𝓤 (sem 𝓛 (Whole vs)) (A.lft κ q)) (H.⇛ (ex 𝓤 FrontBeside))
    unfolding fseps
    lends_front = qed 𝓛 (‵ (Whole vs) ∷ ‵ (flft κ q) ∷ []) ∵ updating ! $ fsplit3 ! $ drop ! $
        rewrite ! 0 (λ (l : List R.Denot). ‵ (fobs γ (code l))) (heres_id R (front ++ back)) refl $ open_ref ! tt (Elements all) {b = b} {o = o} $ fsplit ! $ drop ! $
        use1 𝓛 (‵ (cells (mem R) front b o) ⊛ ‵ (cells (mem R) back b p)) (cut_app 𝓛 (mem R) front back b o) $ split ! $
        feq_i ! ℕ (length front) (length front) refl $ fjoin ! $ move ! (1 ∷ []) $ use1 𝓛 (‵ Back) (whole_out 𝓛 R back b p) $ nothing ! $ move ! (1 ∷ 0 ∷ []) $ fjoin ! $ nothing ! $
        -- [nothing; the back; the front; the open borrow; obs; auth]
        move ! (3 ∷ 4 ∷ 5 ∷ 2 ∷ 1 ∷ 0 ∷ []) $ group ! 6 $
        use1 𝓛 (later (some (λ (δ : GName). ‵ (fobs δ (code front)) ⊛ ‵ (fbor κ (Borrowed (Elements (length front)) b o δ)) ⊛ ‵ (flft κ q) ⊛ ‵ (follows (Array R 0) (Array R 0) γ δ onto) ⊛ ‵ (fbor κ Back) ⊛ ‵ ftrue)))
        (takes_beside 𝓛 (Elements all) (Elements (length front)) onto κ q b o b o γ (Back ∷ []) (emp 𝓤) whole_with_front (code (front ++ back)) (code (front ++ back)) front) $ await ! tt $ pick ! (λ δ. split3 ! $
        use2 𝓛 (‵ ((MutSlice ℓ κ R).own_val (record { ref_ptr = (b, o); ghost_name = δ; now = front }) (slice_val (b, o) (length front) ∷ []))) (slice_of 𝓛 R ℓ κ b o δ front room_front) $
        move ! (1 ∷ []) $ split3 ! $ move ! (2 ∷ []) $ split ! $ move ! (0 ∷ 2 ∷ []) $
        -- [the borrow of the back; the token; true; how the slice follows; the front]
        use2 𝓛 (later (‵ (fhide (elements_shared R back b p κ)) ⊛ ‵ (flft κ q))) (shares_each_from 𝓛 full_share R (shared_of R) κ shares back κ ((κ, q) ∷ []) b p (Incl-refl κ) (Incl-refl κ)) $ await ! tt $ split ! $
        pure_i ! (shr_slice_at R (record { ref_ptr = (b, p); now = back }) (slice_val (b, p) (length back) ∷ [])) (tt, (tt, tt)) (refl, room_back) $ fjoin ! $
        now ! $ show ! FrontBeside δ $ keep ! (4 ∷ 0 ∷ 1 ∷ 3 ∷ []) $ done !)

    pub lends_back : ent 𝓤 (sep 𝓤 (sem 𝓛 (Whole vs)) (A.lft κ q)) (H.⇛ (ex 𝓤 BackBeside))
    unfolding fseps
    lends_back = qed 𝓛 (‵ (Whole vs) ∷ ‵ (flft κ q) ∷ []) ∵ updating ! $ fsplit3 ! $ drop ! $
        rewrite ! 0 (λ (l : List R.Denot). ‵ (fobs γ (code l))) (heres_id R (front ++ back)) refl $ open_ref ! tt (Elements all) {b = b} {o = o} $ fsplit ! $ drop ! $
        use1 𝓛 (‵ (cells (mem R) front b o) ⊛ ‵ (cells (mem R) back b p)) (cut_app 𝓛 (mem R) front back b o) $ split ! $
        use1 𝓛 (‵ Front) (whole_out 𝓛 R front b o) $ nothing ! $ move ! (1 ∷ 0 ∷ []) $ fjoin ! $ move ! (1 ∷ []) $ feq_i ! ℕ (length back) (length back) refl $ fjoin ! $ nothing ! $
        -- [nothing; the back; the front; the open borrow; obs; auth]
        move ! (3 ∷ 4 ∷ 5 ∷ 1 ∷ 2 ∷ 0 ∷ []) $ group ! 6 $
        use1 𝓛 (later (some (λ (δ : GName). ‵ (fobs δ (code back)) ⊛ ‵ (fbor κ (Borrowed (Elements (length back)) b p δ)) ⊛ ‵ (flft κ q) ⊛ ‵ (follows (Array R 0) (Array R 0) γ δ (λ ws. front ++ ws)) ⊛ ‵ (fbor κ Front) ⊛ ‵ ftrue)))
        (takes_beside 𝓛 (Elements all) (Elements (length back)) (λ ws. front ++ ws) κ q b o b p γ (Front ∷ []) (emp 𝓤) whole_with_back (code (front ++ back)) (code (front ++ back)) back) $ await ! tt $ pick ! (λ δ. split3 ! $
        use2 𝓛 (‵ ((MutSlice ℓ κ R).own_val (record { ref_ptr = (b, p); ghost_name = δ; now = back }) (slice_val (b, p) (length back) ∷ []))) (slice_of 𝓛 R ℓ κ b p δ back room_back) $
        move ! (1 ∷ []) $ split3 ! $ move ! (2 ∷ []) $ split ! $ move ! (0 ∷ 2 ∷ []) $
        -- [the borrow of the front; the token; true; how the slice follows; the back]
        use2 𝓛 (later (‵ (fhide (elements_shared R front b o κ)) ⊛ ‵ (flft κ q))) (shares_each_from 𝓛 full_share R (shared_of R) κ shares front κ ((κ, q) ∷ []) b o (Incl-refl κ) (Incl-refl κ)) $ await ! tt $ split ! $
        pure_i ! (shr_slice_at R (record { ref_ptr = (b, o); now = front }) (slice_val (b, o) (length front) ∷ [])) (tt, (tt, tt)) (refl, room_front) $ fjoin ! $
        now ! $ show ! BackBeside δ $ keep ! (4 ∷ 0 ∷ 1 ∷ 3 ∷ []) $ done !)
