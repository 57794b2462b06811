-- Local names: what is read is the longest one.
use Rattle.std.proofs.Common.{◌≡◌, ℕ, ◌<◌, ◌≤◌, Bool, true, false, ◌==◌, ◌||◌, if◌then◌else◌, inl, inr, Some, None, List, [], ◌∷◌, ◌++◌, length, refl, ap, ◌∙◌, sym, subst, arith, append_assoc, append-nil, length-append}
use Rattle.std.specs.List.{list_all}
use Rattle.std.specs.Option.{option_map}
use Rattle.std.specs.Cmp.Derive.{both_true}
use Rattle.std.proofs.lemmas.Bool.{eqb-true, and_parts}
use Rattle.std.proofs.lemmas.List.Folds.{list_all-append}
use Rattle.std.proofs.lemmas.Option.{cond_some, option_and_then_some, same_Some}
use Rattle.rdf_text.specs.Classes.{is_hex, is_digit, is_pn_chars_base, is_sparql_pn_chars_u, is_pn_chars_more, is_sparql_pn_chars}
use Rattle.rdf_text.specs.Names.{is_dotted}
use Rattle.rdf_text.specs.scanning.Text.{after_run}
use Rattle.rdf_text.specs.Repetition.{Star}
use Rattle.rdf_text.specs.scanning.Repetition.{after_pieces}
use Rattle.rdf_text.proofs.RepetitionLemmas.{GoesForward, splits}
use Rattle.rdf_text.proofs.Longest.{Sound, Reaches}
use Rattle.rdf_text.proofs.TextLemmas.{after_run-split, after_run-append, after_run-stop}
use Rattle.query_tokens.specs.PrefixedNames.{is_local_escape, IsLocalPiece, is_local_first, is_local_inner, IsLocalRest, IsLocal}
use Rattle.query_tokens.specs.scanning.PrefixedNames.{after_one, after_two_digits, after_local_piece, is_full_stop, after_dotted_piece, after_local}
use Rattle.query_tokens.proofs.Walks.{Passed, IsSound, HaveLength, PassesEach, passes, forward, length-after_pieces, after_pieces-more, after_pieces-none}

pub record OneMember (members : ℕ → Bool) (text rest : List ℕ) : Type 0 where
  pub c : ℕ
  pub is : members c ≡ true
  pub split : text ≡ c ∷ rest

-- what is passed is a member of the class
after_one-some : (members : ℕ → Bool) (text rest : List ℕ) → after_one members text ≡ Some rest → OneMember members text rest
after_one-some members [] rest e = absurd (cc)
after_one-some members (c ∷ cs) rest e =
    let (is, same) = cond_some (members c) cs rest e in
    record { c = c; is = is; split = ap (λ xs. c ∷ xs) same }

-- a character with a percent sign, and one with a backslash
digits_sound : (members : ℕ → Bool) (text rest : List ℕ) → after_two_digits text ≡ Some rest → Passed (IsLocalPiece members) (37 ∷ text) rest
unfolding after_two_digits
digits_sound members text rest e =
    option_and_then_some (after_one is_hex) (after_one is_hex text) rest e (λ after first second.
    let a = after_one-some is_hex text after first in
    let b = after_one-some is_hex after rest second in
    record {
      front = 37 ∷ a.c ∷ b.c ∷ [];
      value = 37 ∷ a.c ∷ b.c ∷ [];
      piece = inr (inl (a.c, b.c, a.is, b.is, refl, refl));
      split = ap (λ xs. 37 ∷ xs) (a.split ∙ ap (λ xs. a.c ∷ xs) b.split);
    })

-- a backslash and one of its characters are a piece
escape_sound : (members : ℕ → Bool) (text rest : List ℕ) → after_one is_local_escape text ≡ Some rest → Passed (IsLocalPiece members) (92 ∷ text) rest
escape_sound members text rest e =
    let one = after_one-some is_local_escape text rest e in
    record {
      front = 92 ∷ one.c ∷ [];
      value = one.c ∷ [];
      piece = inr (inr (one.c, one.is, refl, refl));
      split = ap (λ xs. 92 ∷ xs) one.split;
    }

-- what a step takes is a piece of a local name
local_piece-sound : (members : ℕ → Bool) → IsSound (IsLocalPiece members) (after_local_piece members)
unfolding after_local_piece
local_piece-sound members [] rest e = absurd (cc)
local_piece-sound members (c ∷ cs) rest e =
    elim (members c) as (λ v. members c ≡ v → (if v then Some cs else (if c == 37 then after_two_digits cs else (if c == 92 then after_one is_local_escape cs else None))) ≡ Some rest → Passed (IsLocalPiece members) (c ∷ cs) rest) [
      | true ↦ λ is h. record { front = c ∷ []; value = c ∷ []; piece = inl (c, is, refl, refl); split = cc }
      | false ↦ λ is h.
          elim (c == 37) as (λ v. (c == 37) ≡ v → (if v then after_two_digits cs else (if c == 92 then after_one is_local_escape cs else None)) ≡ Some rest → Passed (IsLocalPiece members) (c ∷ cs) rest) [
            | true ↦ λ is k. subst (λ x. Passed (IsLocalPiece members) (x ∷ cs) rest) (sym (eqb-true c 37 is)) (digits_sound members cs rest k)
            | false ↦ λ is k.
                elim (c == 92) as (λ v. (c == 92) ≡ v → (if v then after_one is_local_escape cs else None) ≡ Some rest → Passed (IsLocalPiece members) (c ∷ cs) rest) [
                  | true ↦ λ is l. subst (λ x. Passed (IsLocalPiece members) (x ∷ cs) rest) (sym (eqb-true c 92 is)) (escape_sound members cs rest l)
                  | false ↦ λ is l. absurd (cc)
                ] refl k
          ] refl h
    ] refl e

-- each piece has a character
local_piece-long : (members : ℕ → Bool) → HaveLength (IsLocalPiece members) (after_local_piece members)
local_piece-long members front v (inl (c, is, spelled, same)) = rw spelled (omega arith)
local_piece-long members front v (inr (inl (a, b, a_hex, b_hex, spelled, same))) = rw spelled (omega arith)
local_piece-long members front v (inr (inr (c, is, spelled, same))) = rw spelled (omega arith)

-- a piece is passed, where the class has neither the percent sign nor the backslash
local_piece-passes : (members : ℕ → Bool) → members 37 ≡ false → members 92 ≡ false → PassesEach (IsLocalPiece members) (after_local_piece members)
unfolding after_local_piece after_two_digits
local_piece-passes members no_percent no_backslash front rest v (inl (c, is, spelled, same)) = rw (spelled, is) refl
local_piece-passes members no_percent no_backslash front rest v (inr (inl (a, b, a_hex, b_hex, spelled, same))) = rw (spelled, no_percent, a_hex, b_hex) refl
local_piece-passes members no_percent no_backslash front rest v (inr (inr (c, is, spelled, same))) = rw (spelled, no_backslash, is) refl

-- '%' begins no local name by itself
first_no_percent : is_local_first 37 ≡ false
unfolding is_local_first is_sparql_pn_chars_u is_pn_chars_base is_digit
first_no_percent = refl

-- nor does the backslash
first_no_backslash : is_local_first 92 ≡ false
unfolding is_local_first is_sparql_pn_chars_u is_pn_chars_base is_digit
first_no_backslash = refl

-- '%' is in no local name by itself
inner_no_percent : is_local_inner 37 ≡ false
unfolding is_local_inner is_sparql_pn_chars is_sparql_pn_chars_u is_pn_chars_base is_pn_chars_more
inner_no_percent = refl

-- nor is the backslash
inner_no_backslash : is_local_inner 92 ≡ false
unfolding is_local_inner is_sparql_pn_chars is_sparql_pn_chars_u is_pn_chars_base is_pn_chars_more
inner_no_backslash = refl

-- nor does '.' end one
inner_no_full_stop : is_local_inner 46 ≡ false
unfolding is_local_inner is_sparql_pn_chars is_sparql_pn_chars_u is_pn_chars_base is_pn_chars_more
inner_no_full_stop = refl

-- a step of the walk: dots, and a piece that is none
pub record IsDottedPiece (text : List ℕ) (value : List ℕ) : Type 0 where
  pub dots : List ℕ
  pub piece : List ℕ
  pub are_dots : list_all is_full_stop dots ≡ true
  pub is : IsLocalPiece is_local_inner piece value
  pub spelled : text ≡ dots ++ piece

-- what a step over dots and a piece takes is that
dotted_piece-sound : IsSound IsDottedPiece after_dotted_piece
unfolding after_dotted_piece
dotted_piece-sound text rest e =
    let (dots, all, text_split) = after_run-split is_full_stop text in
    let found = local_piece-sound is_local_inner (after_run is_full_stop text) rest e in
    record {
      front = dots ++ found.front;
      value = found.value;
      piece = record { dots = dots; piece = found.front; are_dots = all; is = found.piece; spelled = refl };
      split = text_split ∙ ap (λ xs. dots ++ xs) found.split ∙ sym (append_assoc dots found.front rest);
    }

-- each has a character
dotted_piece-long : HaveLength IsDottedPiece after_dotted_piece
dotted_piece-long front v found =
    omega (arith, ap length found.spelled, length-append found.dots found.piece, local_piece-long is_local_inner found.piece v found.is)

-- such a step goes forward
pub dotted_piece-forward : GoesForward after_dotted_piece
dotted_piece-forward = forward IsDottedPiece after_dotted_piece dotted_piece-sound dotted_piece-long

-- after one of them the others follow
pub dotted_pieces-more : (text rest : List ℕ) → after_dotted_piece text ≡ Some rest → after_pieces after_dotted_piece text ≡ after_pieces after_dotted_piece rest
dotted_pieces-more = after_pieces-more after_dotted_piece dotted_piece-forward

-- where none is in front, nothing is passed
pub dotted_pieces-none : (text : List ℕ) → after_dotted_piece text ≡ None → after_pieces after_dotted_piece text ≡ text
dotted_pieces-none = after_pieces-none after_dotted_piece dotted_piece-forward

pub ruleset dotted_pieces = (dotted_piece-forward, dotted_pieces-more, dotted_pieces-none)

-- a piece that is none of the dots ends them
inner_begins : (piece value rest : List ℕ) → IsLocalPiece is_local_inner piece value → after_run is_full_stop (piece ++ rest) ≡ piece ++ rest
inner_begins piece value rest (inl (c, is, spelled, same)) =
    let other : is_full_stop c ≡ false =
    elim (c == 46) as (λ v. (c == 46) ≡ v → v ≡ false) [
      | true ↦ λ e. let member : is_local_inner 46 ≡ true = subst (λ x. is_local_inner x ≡ true) (eqb-true c 46 e) is in absurd (cc inner_no_full_stop)
      | false ↦ λ e. refl
    ] refl in
    rw spelled (after_run-stop is_full_stop c rest other)
inner_begins piece value rest (inr (inl (a, b, a_hex, b_hex, spelled, same))) = rw spelled (after_run-stop is_full_stop 37 (a ∷ b ∷ rest) refl)
inner_begins piece value rest (inr (inr (c, is, spelled, same))) = rw spelled (after_run-stop is_full_stop 92 (c ∷ rest) refl)

-- dots and a piece in front are passed
dotted_step : (dots piece value rest : List ℕ) → list_all is_full_stop dots ≡ true → IsLocalPiece is_local_inner piece value → after_dotted_piece (dots ++ (piece ++ rest)) ≡ Some rest
unfolding after_dotted_piece
dotted_step dots piece value rest all is =
    rw (after_run-append is_full_stop dots (piece ++ rest) all, inner_begins piece value rest is)
    (local_piece-passes is_local_inner inner_no_percent inner_no_backslash piece rest value is)

-- a local name goes on at least as far as such pieces go, the last of which is no dot
abbrev Goes : List ℕ → List ℕ → Type 0
Goes text more = length (after_pieces after_dotted_piece text) ≤ length more

-- so with the others after them
goes_over : (dots piece value rest more : List ℕ) → list_all is_full_stop dots ≡ true → IsLocalPiece is_local_inner piece value → Goes rest more → Goes (dots ++ (piece ++ rest)) more
goes_over dots piece value rest more all is below =
    rw (dotted_pieces-more (dots ++ (piece ++ rest)) rest (dotted_step dots piece value rest all is)) below

-- what follows them is no longer than the text
length-after_dotted_pieces : (text : List ℕ) → length (after_pieces after_dotted_piece text) ≤ length text
length-after_dotted_pieces = length-after_pieces IsDottedPiece after_dotted_piece dotted_piece-sound dotted_piece-long

-- pieces in a row are passed
pieces_reach : (before : List (List ℕ)) (dots middle last value more : List ℕ) → list_all is_full_stop dots ≡ true → Star (IsLocalPiece (is_dotted is_local_inner)) middle before → IsLocalPiece is_local_inner last value → Goes (dots ++ (middle ++ (last ++ more))) more
pieces_reach [] dots middle last value more all star is =
    rw star (goes_over dots last value more more all is (length-after_dotted_pieces more))
pieces_reach (v ∷ before) dots middle last value more all (front, others, inl (c, dotted, spelled, same), star, split) is =
    let tail = last ++ more in
    elim (is_local_inner c) as (λ b. is_local_inner c ≡ b → (b || c == 46) ≡ true → Goes (dots ++ (middle ++ tail)) more) [
      | true ↦ λ inner _.
          rw (split, append_assoc front others tail)
          (goes_over dots front v (others ++ tail) more all (inl (c, inner, spelled, same)) (pieces_reach before [] others last value more refl star is))
      | false ↦ λ inner stop.
          let whole : dots ++ (middle ++ tail) ≡ (dots ++ c ∷ []) ++ (others ++ tail) =
          ap (λ xs. dots ++ (xs ++ tail)) (split ∙ ap (λ xs. xs ++ others) spelled) ∙ sym (append_assoc dots (c ∷ []) (others ++ tail)) in
          rw whole (pieces_reach before (dots ++ c ∷ []) others last value more (rw list_all-append (both_true all (both_true stop refl))) star is)
    ] refl dotted
pieces_reach (v ∷ before) dots middle last value more all (front, others, inr plx, star, split) is =
    let tail = last ++ more in
    rw (split, append_assoc front others tail)
    (goes_over dots front v (others ++ tail) more all (inr plx) (pieces_reach before [] others last value more refl star is))

-- the rest of a local name is passed
rest_reaches : (rest more : List ℕ) (values : List (List ℕ)) → IsLocalRest rest values → Goes (rest ++ more) more
rest_reaches rest more values (inl (nothing, _)) = rw nothing (length-after_dotted_pieces more)
rest_reaches rest more values (inr (middle, last, value, before, star, is, split, _)) =
    rw (split, append_assoc middle last more) (pieces_reach before [] middle last value more refl star is)

-- each local name in front is passed
pub after_local-reaches : Reaches IsLocal after_local
unfolding after_local
after_local-reaches front more (values, (first, rest, value, others, is, is_rest, split, _)) = (
  after_pieces after_dotted_piece (rest ++ more),
  rw (split, append_assoc first rest more, local_piece-passes is_local_first first_no_percent first_no_backslash first (rest ++ more) value is) refl,
  rest_reaches rest more others is_rest,
)

-- what was walked is the rest of a local name
star_append : {V : Type 0} (P : List ℕ → V → Type 0) (vs ws : List V) (xs ys : List ℕ) → Star P xs vs → Star P ys ws → Star P (xs ++ ys) (vs ++ ws)
star_append P [] ws xs ys star stars = rw star stars
star_append P (v ∷ vs) ws xs ys (front, rest, piece, star, split) stars = (
  front,
  rest ++ ys,
  piece,
  star_append P vs ws rest ys star stars,
  rw split (append_assoc front rest ys),
)

-- a text is pieces in a row
abbrev HasPieces : List ℕ → Type 0
HasPieces text = (values : List (List ℕ)) × Star (IsLocalPiece (is_dotted is_local_inner)) text values

-- dots are pieces in a row
dots_are_pieces : (dots : List ℕ) → list_all is_full_stop dots ≡ true → HasPieces dots
dots_are_pieces [] all = ([], refl)
dots_are_pieces (c ∷ cs) all =
    let (first, others) = and_parts (is_full_stop c) (list_all is_full_stop cs) all in
    let (values, star) = dots_are_pieces cs others in
    let is : is_dotted is_local_inner c ≡ true = elim (is_local_inner c) as (λ b. (b || c == 46) ≡ true) [ true ↦ refl | false ↦ first ] in
    ((c ∷ []) ∷ values, (c ∷ [], cs, inl (c, is, refl, refl), star, refl))

-- a piece that may end a name may be inside
wider : (piece value : List ℕ) → IsLocalPiece is_local_inner piece value → IsLocalPiece (is_dotted is_local_inner) piece value
wider piece value (inl (c, is, spelled, same)) = inl (c, rw is refl, spelled, same)
wider piece value (inr plx) = inr plx

-- a text is the rest of a local name
abbrev IsSomeRest : List ℕ → Type 0
IsSomeRest text = (values : List (List ℕ)) × IsLocalRest text values

-- dots and a piece more
rest_more : (text others value : List ℕ) → IsDottedPiece text value → IsSomeRest others → IsSomeRest (text ++ others)
rest_more text others value found (values, inl (nothing, none)) =
    let (dots, star) = dots_are_pieces found.dots found.are_dots in
    (dots ++ value ∷ [], inr (found.dots, found.piece, value, dots, star, found.is, rw nothing (append-nil text ∙ found.spelled), refl))
rest_more text others value found (values, inr (middle, last, end, before, star, is, split, _)) =
    let (dots, dots_star) = dots_are_pieces found.dots found.are_dots in
    let P = IsLocalPiece (is_dotted is_local_inner) in
    let piece_star : Star P (found.piece ++ middle) (value ∷ before) = (found.piece, middle, wider found.piece value found.is, star, refl) in
    let whole : text ++ others ≡ (found.dots ++ (found.piece ++ middle)) ++ last = rw (found.spelled, split) (simp append_assoc) in (
      (dots ++ value ∷ before) ++ end ∷ [],
      inr (found.dots ++ (found.piece ++ middle), last, end, dots ++ value ∷ before, star_append P dots (value ∷ before) found.dots (found.piece ++ middle) dots_star piece_star, is, whole, refl),
    )

-- dots and pieces in a row are the rest of a local name
rest_of : (vs : List (List ℕ)) (text : List ℕ) → Star IsDottedPiece text vs → IsSomeRest text
rest_of [] text star = ([], inl (star, refl))
rest_of (v ∷ vs) text (front, others, piece, star, split) = rw split (rest_more front others v piece (rest_of vs others star))

-- what is passed is a local name
pub after_local-sound : Sound IsLocal after_local
unfolding after_local
after_local-sound text rest e =
    elim (after_local_piece is_local_first text) as (λ r. after_local_piece is_local_first text ≡ r → option_map (after_pieces after_dotted_piece) r ≡ Some rest → (front : List ℕ) × IsLocal front × (text ≡ front ++ rest)) [
      | None ↦ λ found h. absurd (cc)
      | Some after ↦ λ found h.
          let first = local_piece-sound is_local_first text after found in
          let (front, vs, star, split) = splits IsDottedPiece after_dotted_piece (passes IsDottedPiece after_dotted_piece dotted_piece-sound) dotted_piece-forward after in
          let (values, is_rest) = rest_of vs front star in
          let end = same_Some (after_pieces after_dotted_piece after) rest h in (
            first.front ++ front,
            (first.value ∷ values, (first.front, front, first.value, values, first.piece, is_rest, refl, refl)),
            first.split ∙ ap (λ xs. first.front ++ xs) (split ∙ ap (λ xs. front ++ xs) end) ∙ sym (append_assoc first.front front rest),
          )
    ] refl e

-- a local name has a character
pub length-local : (text : List ℕ) → IsLocal text → 0 < length text
length-local text (values, (first, rest, value, others, is, is_rest, split, _)) =
    omega (arith, ap length split, length-append first rest, local_piece-long is_local_first first value is)
