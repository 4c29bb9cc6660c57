-- what is printed where a text is not read
use Rattle.std.specs.Prelude.{ℕ, List, ◌++◌, codes, decimal}
use Rattle.page.specs.declared.read.ReadError.{ReadError}
use Rattle.page.specs.declared.read.ReadError.TheVariants.{Bad, Memory, TooLong}

-- which line is bad or missing, how many bytes a text may have, or that there was no memory
abbrev pub error_text : ReadError → List ℕ
error_text (Bad n) = codes "line " ++ (decimal n ++ codes " is bad or missing")
error_text TooLong = codes "the text is longer than " ++ (decimal 65536 ++ codes " bytes")
error_text (Memory _) = codes "out of memory"
