mod OnLists
mod Computed
