-- What is kept after one token more, and the faults by what is kept.
use Rattle.std.proofs.Common.{◌≡◌, Bool, List, [], ◌∷◌, ◌++◌, refl, arith}
use Rattle.std.proofs.lemmas.List.Sums.{fold-append}
use Rattle.query_grammar.specs.declared.syntax.Role.{Role}
use Rattle.query_grammar.specs.Terminals.{terminal_of}
use Rattle.query_grammar.specs.Roles.{Labelled, count_of, is_open, open_groups}
use Rattle.query_grammar.proofs.Counts.{one-more, count-cons}
use Rattle.sparql_parse.specs.computed.Names.{no_declarations, names_of, names_after, declarations_of, declarations_after}
use Rattle.sparql_parse.specs.Faults.{is_object, is_optional}
use Rattle.sparql_parse.specs.computed.Faults.{fault_of}
use Rattle.sparql_parse.specs.computed.Symbols.{one_more, symbols_of, symbols_after, fault_after}

-- the names after one token more
pub names-more : (ls : List Labelled) (l : Labelled) → names_of (ls ++ l ∷ []) ≡ names_after (names_of ls) (terminal_of l.token) l.token
unfolding names_of
names-more ls l = fold-append (λ names (m : Labelled). names_after names (terminal_of m.token) m.token) [] ls (l ∷ [])

-- the declarations after one token more
pub declarations-more : (ls : List Labelled) (l : Labelled) → declarations_of (ls ++ l ∷ []) ≡ declarations_after (declarations_of ls) l.role l.token
unfolding declarations_of
declarations-more ls l = fold-append (λ d (m : Labelled). declarations_after d m.role m.token) no_declarations ls (l ∷ [])

-- how many there are after one token more
pub count-more : (is_such : Role → Bool) (ls : List Labelled) (l : Labelled) → count_of is_such (ls ++ l ∷ []) ≡ one_more is_such (count_of is_such ls) l.role
count-more is_such [] l = refl
count-more is_such (m ∷ ls) l =
    let rest = count-more is_such ls l in
    let all = count-cons is_such m (ls ++ l ∷ []) in
    let front = count-cons is_such m ls in
    let last = one-more (is_such l.role) (count_of is_such (m ∷ ls)) in
    let last_behind = one-more (is_such l.role) (count_of is_such ls) in
    omega arith

-- what is kept after one token more
pub kept-more : (ls : List Labelled) (l : Labelled) → symbols_of (ls ++ l ∷ []) ≡ symbols_after (symbols_of ls) l
kept-more ls l = rw (names-more ls l, declarations-more ls l, count-more is_object ls l, count-more is_optional ls l, count-more is_open ls l) refl

-- the fault of a token is told by what is kept of those before it
pub fault-kept : (ls : List Labelled) (l : Labelled) → fault_of ls l ≡ fault_after (symbols_of ls) (open_groups (ls ++ l ∷ [])) l
unfolding fault_of fault_after
fault-kept ls l = rw (names-more ls l, count-more is_object ls l, count-more is_optional ls l, count-more is_open ls l) refl
