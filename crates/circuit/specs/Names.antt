-- The names that a module may have.
use Rattle.std.specs.Prelude.{ℕ, zero, suc, Bool, false, ◌&&◌, ◌||◌, not, ◌==◌, nat_le, List, [], ◌∷◌, ◌++◌, map, length, codes, decimal, bytes_eq}
use Rattle.std.specs.List.{list_all, list_any}
use Rattle.std.specs.Char.{is_ascii_alphabetic, is_ascii_alphanumeric}
use Rattle.circuit.specs.Circuit.{Circuit}

-- an input's and an output's name in the module's text
abbrev pub in_name : List ℕ → List ℕ
in_name name = codes "in_" ++ name

abbrev pub out_name : List ℕ → List ℕ
out_name name = codes "out_" ++ name

-- a first byte that passes one test, then bytes that pass another
abbrev pub is_word : (ℕ → Bool) → (ℕ → Bool) → List ℕ → Bool
is_word is_first is_other [] = false
is_word is_first is_other (b ∷ bs) = is_first b && list_all is_other bs

abbrev pub underscore : ℕ
underscore = 95

abbrev pub dollar : ℕ
dollar = 36

-- a letter, a digit or `_`
abbrev pub is_port_byte : ℕ → Bool
is_port_byte b = is_ascii_alphanumeric b || (b == underscore)

-- a port's name without its prefix: a letter, then letters, digits or `_`, 1 to 32 bytes in all
abbrev pub is_port_name : List ℕ → Bool
is_port_name name = is_word is_ascii_alphabetic is_port_byte name && nat_le (length name) 32

-- the words that a wire or register may not be named
abbrev pub reserved_words : List (List ℕ)
reserved_words =
    codes "module" ∷ codes "endmodule" ∷ codes "input" ∷ codes "output" ∷ codes "wire" ∷ codes "reg"
    ∷ codes "assign" ∷ codes "always" ∷ codes "posedge" ∷ codes "if" ∷ codes "else" ∷ codes "and"
    ∷ codes "or" ∷ codes "not" ∷ codes "nand" ∷ codes "nor" ∷ codes "xor" ∷ codes "xnor"
    ∷ codes "buf" ∷ codes "begin" ∷ codes "end" ∷ codes "case" ∷ codes "endcase" ∷ codes "for"
    ∷ codes "while" ∷ codes "initial" ∷ codes "inout" ∷ codes "integer" ∷ codes "parameter" ∷ codes "function"
    ∷ codes "task" ∷ codes "race" ∷ codes "clk" ∷ codes "rst" ∷ []

abbrev pub is_reserved : List ℕ → Bool
is_reserved name = list_any (bytes_eq name) reserved_words

-- a letter or `_`
abbrev pub is_own_first : ℕ → Bool
is_own_first b = is_ascii_alphabetic b || (b == underscore)

-- a letter, a digit, `_` or `$`
abbrev pub is_own_byte : ℕ → Bool
is_own_byte b = is_port_byte b || (b == dollar)

-- a wire's or a register's name: a letter or `_`, then letters, digits, `_` or `$`, 1 to 40 bytes in all, and not
-- reserved
abbrev pub is_own_name : List ℕ → Bool
is_own_name name = is_word is_own_first is_own_byte name && nat_le (length name) 40 && not (is_reserved name)

-- every name that the module's text declares, in the order of the text
abbrev pub declared_names : Circuit → List (List ℕ)
declared_names m =
    codes "clk" ∷ codes "rst" ∷ (map in_name m.inputs ++ map out_name m.outputs ++ m.wires ++ map (λ r. r.name) m.regs)

-- a prefix and a number in decimal
abbrev pub numbered_name : List ℕ → ℕ → List ℕ
numbered_name prefix k = prefix ++ decimal k

-- the prefix with the numbers 0 to n - 1
abbrev pub numbered : List ℕ → ℕ → List (List ℕ)
numbered prefix zero = []
numbered prefix (suc n) = numbered prefix n ++ numbered_name prefix n ∷ []
