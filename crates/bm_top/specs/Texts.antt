-- What the commands print that answer no query. These texts are this project's own.
use Rattle.std.specs.Prelude.{ℕ, List, ◌++◌, codes, decimal}
use Rattle.index_file.specs.declared.counts.IndexCounts.{IndexCounts}

-- how many triples are stored, and in how many bytes
abbrev pub stored_text : ℕ → ℕ → List ℕ
stored_text triples bytes = codes "stored triples " ++ (decimal triples ++ (codes " bytes " ++ (decimal bytes ++ codes "\n")))

-- the version of an index, and how many of each it has
abbrev pub counts_text : IndexCounts → List ℕ
counts_text counts =
    codes "index ok: version " ++ (decimal counts.version
    ++ (codes ", triples " ++ (decimal counts.triples
    ++ (codes ", shared " ++ (decimal counts.shared
    ++ (codes ", subjects " ++ (decimal counts.subjects
    ++ (codes ", objects " ++ (decimal counts.objects
    ++ (codes ", predicates " ++ (decimal counts.predicates ++ codes "\n")))))))))))
