mod Adding
mod Options
