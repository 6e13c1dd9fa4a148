-- Promise: the source of a number: its functions, and the `main` that calls them. Each line ends with a line feed.
use Rattle.std.specs.Prelude.{ℕ, ◌+◌, List, [], ◌∷◌, ◌++◌, codes}
use Rattle.std.specs.List.{flat_map, range_with_len}
use Rattle.std.specs.Fmt.{decimal}

-- a line
abbrev pub line : List ℕ → List ℕ
line text = text ++ 10 ∷ []

-- the function with a number
abbrev pub function_line : ℕ → List ℕ
function_line k =
    line (codes "int f" ++ decimal k ++ codes "(int x){a[x&255]=a[x&255]+" ++ decimal (k + 1) ++ codes ";g[" ++ decimal k ++ codes "]=g[" ++ decimal k
    ++ codes "]^x;return a[(x+" ++ decimal k ++ codes ")&255];}")

-- its call
abbrev pub call_line : ℕ → List ℕ
call_line k = line (codes "s=f" ++ decimal k ++ codes "(s+i);")

-- the source with so many functions
abbrev pub made_source : ℕ → List ℕ
made_source n =
    line (codes "int a[256];") ++ line (codes "__logged int g[64];") ++ flat_map function_line (range_with_len 0 n)
    ++ line (codes "int main(void){int i;int s;for(i=0;i<16;i=i+1){") ++ flat_map call_line (range_with_len 0 n)
    ++ line (codes "release(s);}check();return 0;}")
